use Rattle.c_printer.proofs.value.kind.Goals as goal

pub returns-in-SignedChar : goal.returns-in-SignedChar
returns-in-SignedChar c = rw c.in-SignedChar.is c.text.ensures

pub returns-in-UnsignedChar : goal.returns-in-UnsignedChar
returns-in-UnsignedChar c = rw c.in-UnsignedChar.is c.text-in-UnsignedChar.ensures

pub returns-in-UnsignedShort : goal.returns-in-UnsignedShort
returns-in-UnsignedShort c = rw c.in-UnsignedShort.is c.text-in-UnsignedShort.ensures

pub returns-in-UnsignedLong : goal.returns-in-UnsignedLong
returns-in-UnsignedLong c = rw c.in-UnsignedLong.is c.text-in-UnsignedLong.ensures

pub returns-in-LockState : goal.returns-in-LockState
returns-in-LockState c = rw c.in-LockState.is c.text-in-LockState.ensures

pub returns-in-TypeObject : goal.returns-in-TypeObject
returns-in-TypeObject c = rw c.in-TypeObject.is c.text-in-TypeObject.ensures
