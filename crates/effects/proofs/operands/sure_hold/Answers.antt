use mathlib.Core.Path.{◌≡◌}
use lib.ListN.{length}
use Rattle.std.proofs.Common.{[]}
use Rattle.effects.specs.Shape.{tables_with}
use Rattle.effects.specs.Effects.{sure_writes}
use borrow.Author.Rules.{rules}
use Rattle.effects.proofs.operands.sure_hold.Goals as goal

pub each_holds-requires-clause-callable : goal.each_holds-requires-clause-callable
each_holds-requires-clause-callable c =
    let n : c.sure_count.result ≡ length (sure_writes (tables_with [] c.args.callees) c.args.x) = c.sure_count.ensures (tables_with [] c.args.callees) c.args.x.metadata in
    λ k h _ _ _ _ _ _ _. rw (← n) h

pub returns : goal.returns
returns c =
    λ cases.
    let n : c.sure_count.result ≡ length (sure_writes (tables_with cases c.args.callees) c.args.x) = c.sure_count.ensures (tables_with cases c.args.callees) c.args.x.metadata in
    search rules
