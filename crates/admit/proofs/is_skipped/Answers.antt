use native.Mathlib.Omega.{arith}
use Rattle.admit.specs.laws.Rows.{skipped_small, skipped_large, skipped_else}
use Rattle.admit.proofs.is_skipped.Goals as goal

pub returns-then-c-lt2 : goal.returns-then-c-lt2
returns-then-c-lt2 c = record { answer = skipped_small c.args.c c.if-c-lt2.true }

pub returns-then-c-gt-MAX_INSTRUCTIONS : goal.returns-then-c-gt-MAX_INSTRUCTIONS
returns-then-c-gt-MAX_INSTRUCTIONS c = record { answer = skipped_large c.args.c c.if-c-gt-MAX_INSTRUCTIONS.true }

pub returns : goal.returns
returns c = record { answer = skipped_else c.args.c (omega arith) (omega arith) }
