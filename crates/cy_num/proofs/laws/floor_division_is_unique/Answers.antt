use Rattle.cy_num.proofs.Floor.{IsFloorDivision-unique}
use Rattle.cy_num.proofs.laws.floor_division_is_unique.Goals as goal

pub returns : goal.returns
returns c = IsFloorDivision-unique
