use Rattle.std.proofs.Common.{Bool, ◌&&◌, sym, refl, ap, ◌∙◌}
use mathlib.Core.Bool.{and-true}
use Rattle.words.specs.laws.Truth.{left_true}
use Rattle.use_def.specs.laws.SingleSets.{put_single_reads, no_single_reads, none_put}
use Rattle.use_def.proofs.touch.put_single_reads.Goals as goal

pub returns-then-not-reads_first : goal.returns-then-not-reads_first
returns-then-not-reads_first c =
    let p = c.requires in
    let first = c.reads_first in (
      λ l T m. no_single_reads _ _ refl p.0.single T m _ (sym (rw p.1 at first.ensures) ∙ c.if-not-reads_first.true),
      λ d t. refl,
    )

pub put_if-requires : goal.put_if-requires
put_if-requires c =
    let p = c.requires in
    let first = c.reads_first in
    rw c.field.ensures (p.0.some, λ e. p.0.first (sym (rw p.1 at first.ensures) ∙ c.if-not-reads_first.false))

pub put_if-requires-2 : goal.put_if-requires-2
put_if-requires-2 c =
    let p = c.requires in
    let second = c.reads_second in
    rw (c.put_if.auto.row, c.field-2.ensures) (p.0.some, λ e. p.0.second (sym (rw p.1 at second.ensures) ∙ left_true second.result _ e))

pub returns : goal.returns
returns c =
    let p = c.requires in
    let first = c.reads_first in
    let reads = sym (rw p.1 at first.ensures) ∙ c.if-not-reads_first.false in
    let second = c.reads_second in
    let one = c.put_if.ensures in
    let two = c.put_if-2.ensures in (
      λ l T m. put_single_reads _ _ refl p.0.single T m _ _ _ _ _ _ _ (l ∙ sym reads) c.field.ensures (ap (λ (z : Bool). second.result && z) l ∙ and-true second.result ∙ (rw p.1 at second.ensures)) c.field-2.ensures one two,
      λ d. none_put _ _ _ _ _ second.result c.args.live d one two,
    )
