-- The steps by which the text is read.
use Rattle.std.proofs.Common.{◌≡◌, ℕ, suc, ◌+◌, ◌-◌, ◌*◌, ◌%◌, ◌<◌, ◌≤◌, List, [], ◌∷◌, Bool, true, false, max, nat_le, leb-true, leb-false, ◌∙◌, length, get_or, drop, refl, add-one, arith, length-drop, drop-cons, le-ltb, lt-ltb, ne_eqb, le-leb}
use Rattle.std.proofs.lemmas.Bool.{lt-leb}
use Rattle.replay.specs.declared.text.AnswerKind.TheVariants.{Unchanged, Refused, Rewritten}
use Rattle.replay.specs.Recorded.{space, further, byte_at, word_length, skipped, kind_at, number_from}

-- ---- a byte

pub byte_inside : (text : List ℕ) (i : ℕ) → i < length text → get_or text i 0 ≡ byte_at text i
unfolding byte_at
byte_inside text i h = rw (lt-ltb i (length text) h) refl

pub byte_outside : (text : List ℕ) (i : ℕ) → length text ≤ i → space ≡ byte_at text i
unfolding byte_at
byte_outside text i h = rw (le-ltb i (length text) h) refl

-- ---- past a word

pub skip_none : (text : List ℕ) (i last : ℕ) → length text ≤ i → i ≡ skipped text i last
unfolding skipped word_length
skip_none text i last h = rw (nothing (drop i text) (length-drop i text)) (omega arith)
  where
    nothing : (l : List ℕ) → length l ≡ length text - i → word_length last l ≡ 0
    nothing [] e = refl
    nothing (x ∷ xs) e = absurd (omega arith)

-- nothing ends the word: i is where a walk from `at` stops
pub skip_end : (text : List ℕ) (at i m last : ℕ) → length text ≤ i → (at ≤ length text → i ≤ length text) → m ≡ max at (length text) → skipped text i last ≡ skipped text at last
    → m ≡ skipped text at last
skip_end text at i m last past near e same = go (nat_le at (length text)) refl
  where
    go : (b : Bool) → nat_le at (length text) ≡ b → m ≡ skipped text at last
    go true l =
        let h = near (leb-true at (length text) l) in
        let k = leb-true at (length text) l in
        let end : m ≡ i = omega arith in
        end ∙ skip_none text i last past ∙ same
    go false l =
        let h = leb-false at (length text) l in
        let end : m ≡ at = omega arith in
        end ∙ skip_none text at last (omega arith)

pub skip_found : (text : List ℕ) (i last : ℕ) → i < length text → get_or text i 0 ≤ last → i + 1 ≡ skipped text i last
unfolding skipped word_length
skip_found text i last h le = rw (drop-cons text i 0 h, le-leb (get_or text i 0) last le) refl

pub skip_next : (text : List ℕ) (i last : ℕ) → i < length text → last < get_or text i 0 → skipped text (i + 1) last ≡ skipped text i last
unfolding skipped word_length
skip_next text i last h lt = rw (drop-cons text i 0 h, lt-leb (get_or text i 0) last lt, add-one i) (omega arith)

-- ---- a number, where b is the byte at its k-th digit

pub number_ends : (text : List ℕ) (i k v b : ℕ) → b ≡ byte_at text (further i k) → k < 9 → b ≤ space → v ≡ number_from (9 - k) text i k v
unfolding number_from
number_ends text i k v b e h le =
    let more : 9 - k ≡ suc (9 - (k + 1)) = omega arith in
    rw (more, ← e, le-leb b space le) refl

pub number_goes_on : (text : List ℕ) (i k v b : ℕ) → b ≡ byte_at text (further i k) → k < 9 → space < b
    → number_from (9 - (k + 1)) text i (k + 1) (v % 100000000 * 10 + b % 16) ≡ number_from (9 - k) text i k v
unfolding number_from
number_goes_on text i k v b e h lt =
    let more : 9 - k ≡ suc (9 - (k + 1)) = omega arith in
    rw (more, ← e, lt-leb b space lt, add-one k) refl

pub number_full : (text : List ℕ) (i k v : ℕ) → 9 ≤ k → v ≡ number_from (9 - k) text i k v
unfolding number_from
number_full text i k v h = let none : 9 - k ≡ 0 = omega arith in rw none refl

-- ---- an answer's kind

pub kind_c : (text : List ℕ) (i : ℕ) → byte_at text (further i 2) ≡ 99 → Unchanged ≡ kind_at text i
unfolding kind_at
kind_c text i e = rw e refl

pub kind_f : (text : List ℕ) (i : ℕ) → byte_at text (further i 2) ≡ 102 → Refused ≡ kind_at text i
unfolding kind_at
kind_f text i e = rw e refl

pub kind_other : (text : List ℕ) (i : ℕ) → (byte_at text (further i 2) ≡ 99 → ⊥) → (byte_at text (further i 2) ≡ 102 → ⊥) → Rewritten ≡ kind_at text i
unfolding kind_at
kind_other text i f g = rw (ne_eqb (byte_at text (further i 2)) 99 f, ne_eqb (byte_at text (further i 2)) 102 g) refl
