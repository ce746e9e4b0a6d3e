mod Valued
