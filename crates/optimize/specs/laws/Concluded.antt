-- "unchanged: same code, all kept", refusal 10 or rewritten, by what is in lent memory.
-- Assumes nothing.
use Rattle.std.specs.Prelude.{Ok, Err, Result, ◌≡◌, refl, Bool, true, false, ◌&&◌, List, [], ◌∷◌, ℕ, suc, ◌+◌, ◌^◌, ◌≤◌, ◌<◌, eqb, length, get_or}
use Rattle.std.proofs.Math.Path.{sym}
use Rattle.std.proofs.Common.{ap, ◌∙◌, inl, inr, zero-add, arith, eq-eqb, ne_eqb, eqb-true}
use Rattle.std.proofs.Math.Decide.{dec_le}
use Rattle.std.proofs.Math.ListN.{get_or-eq_default}
use Rattle.std.proofs.lemmas.Bool.{eqb-false}
use Rattle.words.specs.Bytes.{Bytes}
use Rattle.words.specs.Lists.{map_from, sum}
use Rattle.words.specs.laws.Lists.{get_d_tabulate}
use Rattle.instruction.specs.Instruction.{instruction_at, to_word}
use Rattle.instruction.specs.laws.Instruction.{to_of, to_word_fits}
use Rattle.effects.specs.Check.{Passed}
use Rattle.unit.specs.Refusal.{Refused}
use Rattle.effects.specs.Shape.{Cell}
use Rattle.effects.specs.laws.Cells.{cell_of, cells_by, cells_long}
use Rattle.flow.specs.laws.Flags.{Flags, flag, sum_whole, sum_most}
use Rattle.pc_map.specs.Boundary.{boundary}
use Rattle.pc_map.specs.laws.Boundaries.{Mapped, mapped_at}
use Rattle.pc_map.specs.Relocate.{relocation_check, retain_from}
use Rattle.pc_map.specs.laws.Retaining.{retain_all}
use Rattle.answer.specs.Pass.{checked, same_code, all_kept, removal}
use Rattle.run.proofs.Given.{instruction_fields}
use Rattle.unit.specs.declared.refusal.Refusal.{Refusal}
use Rattle.optimize.specs.declared.Answer.TheVariants.{Unchanged, Rewritten}
use Rattle.optimize.specs.laws.Given.{words_in, words_long, same_words, cells_in}
use Rattle.optimize.specs.PassAnswer.{answer_of}

abbrev pub Words : List ℕ → Type 0
Words l = (i : ℕ) → get_or l i 0 < 2 ^ 64

-- ---- the same code

same_from : (ws vs metadata : List ℕ) (p : ℕ) → Words ws → Words vs → same_code (map_from (cell_of metadata) p ws) (map_from (cell_of metadata) p vs) ≡ same_words ws vs
unfolding same_code same_words map_from
same_from [] [] metadata p f g = refl
same_from [] (v ∷ vs) metadata p f g = refl
same_from (w ∷ ws) [] metadata p f g = refl
same_from (w ∷ ws) (v ∷ vs) metadata p f g = rw (to_of w (f 0), to_of v (g 0), same_from ws vs metadata (suc p) (λ i. f (suc i)) (λ i. g (suc i)))

words_fit : (n : ℕ) (code : List ℕ) → Bytes code → Words (words_in n code)
unfolding words_in
words_fit n code b i = elim (dec_le n i) [
  | yes h ↦ (let l : length (words_in n code) ≤ i = rw (words_long n code) h in rw (get_or-eq_default (words_in n code) 0 l) (omega arith))
  | no h ↦ rw (get_d_tabulate n (λ p. to_word (instruction_at code p)) i 0 (omega arith)) (to_word_fits (instruction_at code i) (instruction_fields code i b))
]

pub same_code_lem : (n : ℕ) (code words metadata : List ℕ) → Bytes code → Words words → same_code (cells_in n code metadata) (cells_by words metadata) ≡ same_words (words_in n code) words
unfolding cells_by
same_code_lem n code words metadata b w = same_from (words_in n code) words metadata 0 (words_fit n code b) w

-- ---- all kept

eqb_suc : (a b : ℕ) → eqb (suc a) (suc b) ≡ eqb a b
eqb_suc a b = go (eqb a b) refl
  where
    go : (t : Bool) → eqb a b ≡ t → eqb (suc a) (suc b) ≡ t
    go true e = eq-eqb (suc a) (suc b) (ap suc (eqb-true a b e))
    go false e = ne_eqb (suc a) (suc b) (λ q. eqb-false a b e (omega arith))

all_ones : (l : List ℕ) → Flags l → eqb (sum l) (length l) ≡ all_kept l
unfolding sum all_kept
all_ones [] f = refl
all_ones (x ∷ l) f = elim (flag (x ∷ l) f 0) [
  | inl e ↦ rw (e, zero-add) (let most = sum_most l (λ p. f (suc p)) (length l) in ne_eqb (sum l) (suc (length l)) (λ q. omega (arith, sum_whole l)))
  | inr e ↦ (let one : 1 + sum l ≡ suc (sum l) = omega arith in rw (e, one, eqb_suc (sum l) (length l)) (all_ones l (λ p. f (suc p))))
]

pub all_kept_lem : (keep bounds : List ℕ) (m : Mapped keep bounds) (n : ℕ) → length keep ≡ n → eqb (get_or bounds n 0) n ≡ all_kept keep
all_kept_lem keep bounds m n e =
    rw (← e, mapped_at keep bounds m (length keep) (omega arith), sum_whole keep) (all_ones keep m.flags)

-- ---- the answer
and_turned : (s t : Bool) → (s && t) ≡ (t && s)
and_turned true true = refl
and_turned true false = refl
and_turned false true = refl
and_turned false false = refl

-- what is known of the code, of the retained places and of their map
pub record Known (code words keep bounds : List ℕ) : Type 0 where
  pub bytes : Bytes code
  pub fits : (i : ℕ) → get_or words i 0 < 2 ^ 64
  pub mapped : Mapped keep bounds
  pub long : length keep ≡ length words

module _ {code words keep bounds : List ℕ} (k : Known code words keep bounds) (metadata : List ℕ) where
  abbrev given : List Cell
  given = cells_in (length words) code metadata

  abbrev cells : List Cell
  cells = cells_by words metadata

  abbrev same : Bool
  same = eqb (get_or bounds (length words) 0) (length words) && same_words (words_in (length words) code) words

  test : (same_code given cells && all_kept keep) ≡ same
  test =
      rw (same_code_lem (length words) code words metadata k.bytes k.fits, ← all_kept_lem keep bounds k.mapped (length words) k.long)
      (and_turned (same_words (words_in (length words) code) words) (eqb (get_or bounds (length words) 0) (length words)))

  pub conclude_unchanged : (eqb (get_or bounds (length words) 0) (length words) && same_words (words_in (length words) code) words) ≡ true → Ok Unchanged ≡ answer_of (removal given cells keep)
  unfolding removal answer_of
  conclude_unchanged e = rw (test ∙ e)

  module _ (other : (eqb (get_or bounds (length words) 0) (length words) && same_words (words_in (length words) code) words) ≡ false) where
    pub conclude_refused : (k p : ℕ) → relocation_check keep cells ≡ Refused k p → Refused k p ≡ answer_of (removal given cells keep)
    unfolding removal checked answer_of
    conclude_refused k p r = rw (test ∙ other, r)

    retained_long : length (retain_from keep 0 cells) ≡ boundary keep (length words)
    retained_long = retain_all keep k.mapped.flags cells (k.long ∙ sym (cells_long words metadata)) ∙ ap (boundary keep) (cells_long words metadata)

    pub conclude_rewritten : relocation_check keep cells ≡ Passed → Ok (Rewritten (get_or bounds (length words) 0)) ≡ answer_of (removal given cells keep)
    unfolding removal checked answer_of
    conclude_rewritten r = rw (test ∙ other, r) (ap (λ n. Ok (Rewritten n)) (mapped_at keep bounds k.mapped (length words) (omega (arith, k.long)) ∙ sym retained_long))
