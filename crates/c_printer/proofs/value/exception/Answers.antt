use Rattle.c_printer.proofs.value.exception.Goals as goal

pub returns-in-NotImplementedError : goal.returns-in-NotImplementedError
returns-in-NotImplementedError c = rw c.in-NotImplementedError.is c.word-in-NotImplementedError.ensures

pub returns-in-OverflowError : goal.returns-in-OverflowError
returns-in-OverflowError c = rw c.in-OverflowError.is c.word-in-OverflowError.ensures

pub returns-in-ZeroDivisionError : goal.returns-in-ZeroDivisionError
returns-in-ZeroDivisionError c = rw c.in-ZeroDivisionError.is c.word-in-ZeroDivisionError.ensures

pub returns-in-ValueError : goal.returns-in-ValueError
returns-in-ValueError c = rw c.in-ValueError.is c.word-in-ValueError.ensures

pub returns-in-AttributeError : goal.returns-in-AttributeError
returns-in-AttributeError c = rw c.in-AttributeError.is c.word-in-AttributeError.ensures

pub returns-in-SystemError : goal.returns-in-SystemError
returns-in-SystemError c = rw c.in-SystemError.is c.word-in-SystemError.ensures

pub returns-in-UnboundLocalError : goal.returns-in-UnboundLocalError
returns-in-UnboundLocalError c = rw c.in-UnboundLocalError.is c.word-in-UnboundLocalError.ensures
