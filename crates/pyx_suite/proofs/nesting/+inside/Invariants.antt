use Rattle.pyx_suite.proofs.nesting.+inside.Given as goal

abbrev pub decreases-inside : goal.decreases-inside
decreases-inside l = l.room
