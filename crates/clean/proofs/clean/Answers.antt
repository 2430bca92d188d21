use mathlib.Core.Path.{◌≡◌, refl, sym, ap, ◌∙◌}
use mathlib.Core.List.{List}
use Prim.Native.Nat.{ℕ}
use native.Mathlib.Omega.{arith}
use lib.ListN.{length}
use Rattle.words.specs.Bytes.{Bytes}
use Rattle.unit.specs.declared.Line.{Line}
use Rattle.unit.specs.Entry.{lines_in}
use Rattle.unit.specs.Layout.{lines_of}
use Rattle.answer.specs.Answer.{Lent}
use Rattle.answer.specs.Clean.{Cleaned as Cleaning, clean_answer, clean_lines}
use Rattle.answer.specs.Pass.{Outcome, unchanged, refused, rewritten, output_after, lines_after}
use Rattle.run.proofs.Given.{clean_lines_lem, clean_preserves}
use Rattle.optimize.specs.PassAnswer.{answer_of}
use Rattle.clean.specs.declared.Cleaned.{Cleaned}
use Rattle.clean.specs.CleanAnswer.{cleaned_of}
use Rattle.optimize.specs.laws.Lines.{clean_linable, clean_moves}
use Rattle.clean.proofs.clean.Goals as goal

-- lines moved once are those that are defined pass by pass
same_lines : (u : List ℕ) → Bytes u → (l : Lent) (first second : ℕ) (out : List ℕ)
    → output_after (clean_answer u l first second).outcome (lines_after (lines_in (lines_of u)) (clean_answer u l first second).outcome) out
    ≡ output_after (clean_answer u l first second).outcome (clean_lines u l first second) out
unfolding output_after lines_after
same_lines u b l first second out = go (clean_answer u l first second).outcome refl
  where
    go : (o : Outcome) → (clean_answer u l first second).outcome ≡ o → output_after o (lines_after (lines_in (lines_of u)) o) out ≡ output_after o (clean_lines u l first second) out
    go unchanged e = refl
    go (refused k p) e = refl
    go (rewritten kept) e = ap (λ (ls : List Line). output_after (rewritten kept) ls out) (sym (clean_lines_lem u b l first second kept e))

answered : (c : Cleaning) (r : Cleaned) → r ≡ cleaned_of c → r.answer ≡ answer_of c.outcome
unfolding cleaned_of
answered c r e = ap (λ (x : Cleaned). x.answer) e

pub add_lines-requires : goal.add_lines-requires
add_lines-requires c =
    let a = c.args in
    record { room = clean_linable a.unit.now (λ i. omega (arith, c.type_inv.unit i)) (length a.out.now) (length a.work32.now) (length a.work64.now) (length a.first.now) (length a.second.now) _ _ (answered _ _ c.answer-r.ensures.answers.0) c.answer-r.auto.out }

pub returns : goal.returns
returns c =
    let a = c.args in
    let k = c.answer-r.auto in
    let b : Bytes a.unit.now = λ i. omega (arith, c.type_inv.unit i) in
    let moves = clean_moves a.unit.now b (length a.out.now) (length a.work32.now) (length a.work64.now) (length a.first.now) (length a.second.now) in
    let output = c.add_lines.ensures.lined _ a.out.now (answered _ _ c.answer-r.ensures.answers.0, c.answer-r.ensures.answers.1) moves ∙ same_lines a.unit.now b _ _ _ a.out.now in
    record {
      answer = c.answer-r.ensures.answers.0;
      output = output;
      work32 = c.fill.ensures.after (λ y e. e) ∙ rw k.work32;
      work64 = c.fill-2.ensures.after (λ y e. e) ∙ rw k.work64;
      first = c.fill-3.ensures.after (λ y e. e) ∙ rw k.first;
      second = c.fill-4.ensures.after (λ y e. e) ∙ rw k.second;
      runs = rw output (clean_preserves a.unit.now _ _ _ _ a.out.now b);
    }
