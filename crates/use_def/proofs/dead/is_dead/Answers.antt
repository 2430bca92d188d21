use Rattle.use_def.proofs.dead.is_dead.Goals as goal

pub returns-then-not-is_pure : goal.returns-then-not-is_pure
returns-then-not-is_pure c = rw (← c.class-c.ensures, ← c.is_pure.ensures, c.if-not-is_pure.true)

pub is_range_free-requires : goal.is_range_free-requires
is_range_free-requires c = rw (c.write.ensures, c.class-c.ensures) c.requires

pub returns : goal.returns
returns c = rw (← c.class-c.ensures, ← c.is_pure.ensures, c.if-not-is_pure.false) (rw c.write.ensures at c.is_range_free.ensures)
