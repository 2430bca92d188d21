-- Texts put one after the other into a buffer.
-- Assumes nothing.
use Rattle.std.specs.Prelude.{Ok, Err, Result, ◌≡◌, refl, List, [], ◌∷◌, ◌++◌, ℕ, ◌+◌, ◌≤◌, ◌<◌, length, take, get_or, set}
use Rattle.std.proofs.Common.{sym, ap, ◌∙◌, zero-add, arith, add-one, length-append, take-suc, length-take-le}
use Rattle.std.proofs.Math.Seq.{take-length}
use borrow.Rule.Slice.PartMut.{put_mid, put_same}
use Rattle.words.specs.laws.Regions.{put_one, put_long, mid_put, put_put, put_more}
use Rattle.unit.specs.Size.{result_size}
use Rattle.unit.specs.declared.refusal.Refusal.{Refusal}
use Rattle.unit.specs.Refusal.{Refused}
use Rattle.optimize.specs.declared.Answer.{Answer}
use Rattle.optimize.specs.declared.Answer.TheVariants.{Unchanged, Rewritten}

-- text' is text with xs from `at` to `end`
pub record Puts (at : ℕ) (xs text text' : List ℕ) (end : ℕ) : Type 0 where
  pub ends : end ≡ at + length xs
  pub fits : at + length xs ≤ length text
  pub holds : text' ≡ put_mid at (length xs) text xs

pub puts_none : (at : ℕ) (text : List ℕ) → at ≤ length text → Puts at [] text text at
puts_none at text h = record { ends = omega arith; fits = omega arith; holds = sym (put_same at 0 text) }

pub puts_one : (at v : ℕ) (text : List ℕ) → at + 1 ≤ length text → Puts at (v ∷ []) text (set text at v) (at + 1)
puts_one at v text h = record { ends = refl; fits = h; holds = put_one text at v h }

pub puts_long : {at end : ℕ} {xs text text' : List ℕ} → Puts at xs text text' end → length text' ≡ length text
puts_long {at} {end} {xs} {text} {text'} p = ap length p.holds ∙ put_long text at (length xs) xs refl p.fits

-- one text after the other
pub puts_then : {at end end' : ℕ} {xs ys text text' text'' : List ℕ} → Puts at xs text text' end → Puts end ys text' text'' end'
    → Puts at (xs ++ ys) text text'' end'
puts_then {at} {end} {end'} {xs} {ys} {text} {text'} {text''} p q =
    let start = p.ends in
    record {
      ends = q.ends ∙ simp length-append (omega arith);
      fits = simp length-append (omega (arith, q.fits, puts_long p));
      holds =
          q.holds
          ∙ rw (p.ends, p.holds, length-append) (put_put text at (length xs) xs refl p.fits (length ys) ys);
    }

-- a text put at the start
pub puts_text : {end : ℕ} {xs text text' : List ℕ} → Puts 0 xs text text' end → (end ≤ length text') × (end ≡ length (take end text')) × (take end text' ≡ xs)
puts_text {end} {xs} {text} {text'} p =
    let is : take (length xs) text' ≡ xs = ap (take (length xs)) p.holds ∙ mid_put text 0 (length xs) xs refl p.fits in
    let whole : end ≡ length xs = p.ends ∙ zero-add (length xs) in
    let long = puts_long p in
    let fits = p.fits in
    rw (whole, is) (omega arith, refl, refl)

-- a turn of a loop that copies xs
pub copy_turn : (at i : ℕ) (xs text text' : List ℕ) → text' ≡ put_mid at i text (take i xs) → i < length xs → at + length xs ≤ length text
    → set text' (at + i) (get_or xs i 0) ≡ put_mid at (i + 1) text (take (i + 1) xs)
copy_turn at i xs text text' e h room =
    let long : length (take i xs) ≡ i = length-take-le i xs (omega arith) in
    rw (e, put_more text at i (take i xs) long (omega arith) (get_or xs i 0) (omega arith), add-one i, take-suc xs i 0 h)

pub copy_all : (at i : ℕ) (xs text text' : List ℕ) → text' ≡ put_mid at i text (take i xs) → i ≡ length xs → at + length xs ≤ length text
    → Puts at xs text text' (at + i)
copy_all at i xs text text' e h room =
    record { ends = ap (λ (k : ℕ). at + k) h; fits = room; holds = (rw h at e) ∙ ap (put_mid at (length xs) text) (take-length xs) }

-- a result of n instructions lies within an output of so many bytes, 8,192 at most
pub record Listed (n out : ℕ) : Type 0 where
  pub within : result_size n 0 ≤ out
  pub few : out ≤ 8192

-- an answer's result does
abbrev pub Fits : Result Answer Refusal → ℕ → Type 0
Fits (Ok Unchanged) out = Unit {0}
Fits (Err r) out = Unit {0}
Fits (Ok (Rewritten n)) out = Listed n out
