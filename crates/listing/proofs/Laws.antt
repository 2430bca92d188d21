-- Laws of the text: the lines of a result, the answers, and what is written of what is read.
-- Assumes nothing.
use Rattle.std.specs.Prelude.{Ok, Err, Result}
use Rattle.std.proofs.Common.{◌≡◌, ap, sym, subst, refl, ◌∙◌, ◌⊎◌, inl, inr, None, Some, IfSome, OnOk, Option, Result, Ok, Err, cond, List, [], ◌++◌, ℕ, ◌+◌, ◌*◌, ◌-◌, ◌≤◌, ◌<◌, ltb, length, take, drop, set, replicate, zero, suc, ◌/◌, ◌%◌, arith, length-append, length-drop, length-take-le, le-leb, lt-ltb, le-ltb, append-nil}
use Rattle.std.proofs.lemmas.Bool.{lt-leb}
use Rattle.std.proofs.Math.Nat.{eq-or-lt_of_le}
use Rattle.std.specs.Io.KnownBytes.{Appends, Consumes, IsAtEnd}
use lib.Seq.{take_all}
use borrow.Rule.Slice.PartMut.{mid_of, post_of}
use Rattle.words.specs.Le.{u32_at}
use Rattle.instruction.specs.declared.Instruction.{Instruction}
use Rattle.instruction.specs.Instruction.{instruction_at}
use Rattle.unit.specs.Result.{result_bytes, result_places_at}
use Rattle.unit.specs.laws.UnitLaws.{result_long}
use Rattle.unit.specs.declared.Line.{Line}
use Rattle.unit.specs.Size.{result_header_size, result_size}
use Rattle.answer.specs.Pass.{Outcome, unchanged, refused, rewritten, output_after}
use Rattle.answer.specs.Answer.{Lent, lent_of, pass_answer, pass_lines}
use Rattle.unit.specs.declared.refusal.Refusal.{Refusal}
use Rattle.unit.specs.Refusal.{Refused}
use Rattle.optimize.specs.declared.Answer.{Answer}
use Rattle.optimize.specs.PassAnswer.{answer_of}
use Rattle.listing.specs.laws.Puts.{Puts, Fits, puts_none, puts_one, puts_long, puts_then, puts_text}
use Rattle.listing.specs.Text.{decimal, ended, fields, line, text_of, listing_with, listing}

one_at_least : (k : ℕ) → (k ≡ 0 → ⊥) → 1 ≤ k
one_at_least zero n = absurd (n refl)
one_at_least (suc k) n = omega arith

-- the last digit after those before it
last_digit : (k v : ℕ) {at to : ℕ} {text mid : List ℕ} → (k ≡ 0 → ⊥) → Puts at (cond (ltb v 10) [] (decimal (k - 1) (v / 10))) text mid to → to + 1 ≤ length mid
    → Puts at (decimal k v) text (set mid to (48 + v % 10)) (to + 1)
unfolding decimal
last_digit zero v n p h = absurd (n refl)
last_digit (suc k) v n p h =
    let before : suc k - 1 ≡ k = omega arith in
    puts_then (rw before at p) (puts_one _ _ _ h)

pub one_digit : (k v : ℕ) {at to : ℕ} {text mid : List ℕ} → (k ≡ 0 → ⊥) → v < 10 → mid ≡ text → to ≡ at → at + k ≤ length text
    → Puts at (decimal k v) text (set mid to (48 + v % 10)) (to + 1)
one_digit k v n low e f room =
    rw (e, f) (last_digit k v n (rw (lt-ltb v 10 low) (puts_none _ _ (omega arith))) (omega (arith, one_at_least k n)))

pub more_digits : (k v : ℕ) {at to to' : ℕ} {text mid mid' : List ℕ} → (k ≡ 0 → ⊥) → 10 ≤ v → mid' ≡ mid → to' ≡ to → Puts at (decimal (k - 1) (v / 10)) text mid to → to ≤ at + (k - 1)
    → at + k ≤ length text → Puts at (decimal k v) text (set mid' to' (48 + v % 10)) (to' + 1)
more_digits k v n high e f p most room =
    rw (e, f) (last_digit k v n (rw (le-ltb v 10 high) p) (omega (arith, one_at_least k n, puts_long p)))

-- the line of what was read at a place
pub line_puts : (result : List ℕ) (n p : ℕ) {at end old places : ℕ} {text text' : List ℕ} {i : Instruction} → old ≡ u32_at result (places + 4 * p) → places ≡ result_places_at n
    → i ≡ instruction_at (mid_of result_header_size (length result - result_header_size) result) p → Puts at (ended p 32 ++ ended old 32 ++ fields i) text text' end → Puts at (line result n p) text text' end
unfolding line
line_puts result n p e f g q =
    let whole : mid_of result_header_size (length result - result_header_size) result ≡ drop result_header_size result = take_all (length result - result_header_size) (drop result_header_size result) (simp length-drop (omega arith)) in
    rw whole at (rw (e, f, g) at q)

-- what a pass tells of lies within the output
pub fits_answer : (o : Outcome) (lines : List Line) (out out' : List ℕ) → out' ≡ output_after o lines out → length out' ≡ length out → length out ≤ 8192 → Fits (answer_of o) (length out')
unfolding answer_of output_after
fits_answer unchanged lines out out' e l h = tt
fits_answer (refused k p) lines out out' e l h = tt
fits_answer (rewritten kept) lines out out' e l h =
    let long : length out' ≡ length (result_bytes kept lines) + length (post_of 0 (result_size (length kept) (length lines)) out) = ap length e ∙ length-append (result_bytes kept lines) _ in
    record { within = omega (arith, long, result_long kept lines); few = omega arith }

-- the listing of a unit that is too long, and of another
pub listing_long : (u out : List ℕ) → 2048 < length u → text_of (Refused 2 0) out ≡ listing u
unfolding listing text_of
listing_long u out h = rw (lt-leb (length u) 2048 h)

pub listing_worked : (u : List ℕ) → length u ≤ 2048 → listing_with u (replicate 8192 0) (lent_of 8192 4096 8192) ≡ listing u
unfolding listing
listing_worked u h = rw (le-leb (length u) 2048 h)

pub listed : {end : ℕ} {xs text text' : List ℕ} (u : List ℕ) → xs ≡ listing u → Puts 0 xs text text' end → take end text' ≡ listing u
listed u e p = (puts_text p).2 ∙ e

-- the text of what a pass tells
pub outcome_puts : (u out out' : List ℕ) (l : Lent) {r : Result Answer Refusal} {text text' : List ℕ} {end : ℕ} → r ≡ answer_of (pass_answer u l) → out' ≡ output_after (pass_answer u l) (pass_lines u l) out
    → Puts 0 (text_of r out') text text' end → Puts 0 (listing_with u out l) text text' end
unfolding listing_with
outcome_puts u out out' l e w p = rw (e, w) at p

-- what is read decides the listing: it is all of the unit, or more bytes than a unit may have
same_listing : (front rest : List ℕ) → (rest ≡ []) ⊎ (2048 < length front) → listing front ≡ listing (front ++ rest)
same_listing front rest (inl e) = ap listing (sym (ap (λ l. front ++ l) e ∙ append-nil front))
same_listing front rest (inr h) = sym (listing_long front [] h) ∙ listing_long (front ++ rest) [] (simp length-append (omega arith))

-- what was read of an input of so many bytes, a buffer of 2,049 bytes before it
whole_or_long : (n : ℕ) (buffer rest : List ℕ) → n ≤ length buffer → length buffer ≡ 2049 → (n < 2049 → rest ≡ []) → (rest ≡ []) ⊎ (2048 < length (take n buffer))
whole_or_long n buffer rest within room end =
    go (eq-or-lt_of_le within)
  where
    go : (n ≡ length buffer) ⊎ (n < length buffer) → (rest ≡ []) ⊎ (2048 < length (take n buffer))
    go (inl e) = inr (rw (length-take-le n buffer within) (omega arith))
    go (inr h) = inl (end (omega arith))

-- the listing of what a reader has left is written
pub listed_all : (r r' w w' : Option (List ℕ)) (n : ℕ) (buffer written : List ℕ) → n ≤ length buffer → length buffer ≡ 2049 → Consumes r r' (take n buffer) → (n < 2049 → IsAtEnd r')
    → written ≡ listing (take n buffer) → Appends w w' written → IfSome r (λ unit. Appends w w' (listing unit))
listed_all None r' w w' n buffer written within room read end e wrote = tt
listed_all (Some xs) None w w' n buffer written within room read end e wrote = absurd read
listed_all (Some xs) (Some ys) w w' n buffer written within room read end e wrote =
    let same = same_listing (take n buffer) ys (whole_or_long n buffer ys within room end) in
    subst (Appends w w') (e ∙ same ∙ ap listing (sym read)) wrote

pub on_ok : {A E P Q : Type 0} (r : Result A E) → (P → Q) → OnOk r P → OnOk r Q
on_ok (Ok x) f p = f p
on_ok (Err e) f p = tt
