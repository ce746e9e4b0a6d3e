use Rattle.cy_num.proofs.Bits.{bit_at-And, bit_at-Or, bit_at-Xor}
use Rattle.cy_num.proofs.laws.bitwise_operations_go_bit_by_bit.Goals as goal

pub returns : goal.returns
returns c = record { and = bit_at-And; or = bit_at-Or; xor = bit_at-Xor }
