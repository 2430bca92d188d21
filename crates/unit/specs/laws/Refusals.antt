-- Every reason has a number above 0: a test's number tells whether there is a reason, and which.
-- Assumes nothing.
use Rattle.std.specs.Prelude.{◌<◌}
use Rattle.std.proofs.Common.{arith}
use Rattle.unit.specs.declared.refusal.Reason.{Reason}
use Rattle.unit.specs.declared.refusal.Reason.TheVariants.{NotUnit, ShortBuffer, MetadataCount, TypeCount, InvalidOpcode, EffectError, SlotOutside, BranchOutside, UnsoundLoop, LostLoop, LinePlaces, FrameLength, TooManyCases, TariffLength}
use Rattle.unit.specs.Refusal.{reason_number}

pub some_number : (x : Reason) → 0 < reason_number x
some_number NotUnit = omega arith
some_number ShortBuffer = omega arith
some_number MetadataCount = omega arith
some_number TypeCount = omega arith
some_number InvalidOpcode = omega arith
some_number EffectError = omega arith
some_number SlotOutside = omega arith
some_number BranchOutside = omega arith
some_number UnsoundLoop = omega arith
some_number LostLoop = omega arith
some_number LinePlaces = omega arith
some_number FrameLength = omega arith
some_number TooManyCases = omega arith
some_number TariffLength = omega arith
