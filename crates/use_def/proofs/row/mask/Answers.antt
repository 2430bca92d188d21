use Rattle.std.proofs.Common.{◌≡◌, ◌+◌, ◌-◌, ◌%◌, ◌^◌, Bool, true, false, arith}
use mir.Val.{bool_byte}
use Rattle.use_def.specs.laws.Wordwise.{all_bits}
use Rattle.use_def.proofs.row.mask.Goals as goal

bits : (when : Bool) → (0 + (2 ^ 64 - bool_byte when)) % 2 ^ 64 ≡ all_bits when
bits true = omega arith
bits false = omega arith

pub returns : goal.returns
returns c = λ when e. rw e (bits when)
