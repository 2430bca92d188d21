use Rattle.std.proofs.Common.{arith}
use Rattle.desk.specs.laws.Copying.{none_copied}
use Rattle.desk.proofs.copy.copy_words.Goals as goal

pub returns-then-c-eq0 : goal.returns-then-c-eq0
returns-then-c-eq0 c = let a = c.args in record { frame = none_copied a.frame.now a.a a.b a.c c.if-c-eq0.true }

pub copy_up-requires : goal.copy_up-requires
copy_up-requires c = record { order = c.if-a-b.true; read = c.requires.read (omega (arith, c.if-c-eq0.false)) }

pub copy_down-requires : goal.copy_down-requires
copy_down-requires c = record { order = c.if-a-b.false; written = c.requires.written (omega (arith, c.if-c-eq0.false)) }
