-- The walk's invariant: what is numbered so far, followed by what the definition makes of the rest.
-- Assumes nothing.
use mathlib.Core.Path.{◌≡◌, refl, sym, ap, ◌∙◌}
use mathlib.Core.Bool.{cond}
use mathlib.Core.List.{List, [], ◌∷◌, ◌++◌, append_assoc, append-nil, map}
use Prim.Native.Nat.{ℕ, ◌+◌, ◌*◌, ◌-◌, ◌≤◌, ◌<◌}
use native.Mathlib.Nat.{zero-add}
use native.Mathlib.Numerals.{add-one}
use native.Mathlib.Omega.{arith}
use lib.Dec.{eqb}
use lib.ListN.{length, get_or, set, take, drop, length-set}
use lib.Seq.{take-suc-set, drop-cons, take_all, get_or-set_other, drop-length}
use borrow.Author.Tests.{ne_eqb}
use borrow.Rule.Slice.PartMut.{mid_of, put_mid}
use Rattle.words.specs.laws.Regions.{mid_long, get_mid, mid_set, mid_set_before, mid_put, put_long, outside_same, outside_part, outside_front}
use Rattle.instruction.specs.declared.Instruction.{Instruction}
use Rattle.instruction.specs.Instruction.{of_word, to_word}
use Rattle.effects.specs.Shape.{Tables, Cell}
use Rattle.effects.specs.laws.Cells.{cells_by}
use Rattle.values.specs.Values.{Values, empty}
use Rattle.values.specs.Number.{number, number_code}
use Rattle.values.specs.laws.Memory.{memory_of, Ready, Holds}
use Rattle.values.specs.laws.Promises.{Kept, Clears}
use Rattle.numbering.specs.laws.Walk.{sections_with, Stands, Room, Becomes, number_words, code_words_lem, Begins, Enters, Turns}
use Rattle.values.proofs.Recording.{unchanged}
use Rattle.numbering.proofs.Keeping.{kept_then}

-- the destinations of the places
abbrev pub dest_of : List ℕ → ℕ → ℕ
dest_of code q = (of_word (get_or code q 0)).a

-- the fields of a word fit
pub stands : (code : List ℕ) (n p : ℕ) → p < n → Stands n p (of_word (get_or code p 0)) (dest_of code)
unfolding of_word
stands code n p h = record { op = omega arith; flags = omega arith; a = omega arith; place = h; own = refl }

-- a block's start
pub enters_cleared : {n S leader : ℕ} {t t' : List ℕ} → leader ≡ 1 → Clears n S t t' → Enters n S leader t t'
enters_cleared e d = rw e (record { kept = d.kept; holds = λ types dest v h. d.holds types dest })

pub enters_same : {n S leader : ℕ} {t : List ℕ} → (leader ≡ 1 → ⊥) → Ready n S t → Enters n S leader t t
enters_same {leader = leader} e g = record { kept = unchanged g; holds = λ types dest v h. rw (ne_eqb leader 1 e) h }

pub enter_room : {n S : ℕ} {t t₁ : List ℕ} → Room n S t → (memory_of n S t).epoch + 1 < 4294967295 → Kept n S 1 0 0 t t₁ → Room n S t₁
enter_room g more d =
    record {
      ready = d.ready;
      constants = omega (arith, g.constants, d.constants);
      expressions = omega (arith, g.expressions, d.expressions);
      epoch = omega (arith, more, d.epochs);
    }

pub turns : {n : ℕ} {types t t₁ t' constants : List ℕ} {leader w p y : ℕ} {x : Instruction} → Enters n (length types) leader t t₁
    → Becomes n types 1 1 1 t₁ x t' (λ dest c. Stands n p (of_word w) dest × (c ≡ constants)) (λ dest S v. number S p (of_word w) v) → y ≡ to_word x → Turns n types constants leader w p t y t'
turns {types = types} {constants = constants} {leader = leader} d b e =
    record {
      kept = kept_then d.kept b.kept;
      holds = λ dest l T v z h.
          let r = b.holds dest constants l T (cond (eqb leader 1) empty v) (z, refl) (d.holds types dest v h) in
          (e ∙ ap to_word r.0, r.1);
    }

-- the invariant at place p
pub record Progress (code₀ leaders types constants : List ℕ) (n : ℕ) (code memory : List ℕ) (p : ℕ) : Type 0 where
  pub here : p ≤ n
  pub size : length code ≡ n
  pub size₀ : length code₀ ≡ n
  pub ready : Ready n (length types) memory
  pub constants_few : (memory_of n (length types) memory).constants ≤ p
  pub expressions_few : (memory_of n (length types) memory).expressions ≤ p
  pub epochs_few : (memory_of n (length types) memory).epoch ≤ 2 * p + 1
  pub later : (q : ℕ) → p ≤ q → get_or code q 0 ≡ get_or code₀ q 0
  pub walk : (locals : ℕ) (tables : Tables) → (v : Values) × Holds n (length types) types (dest_of code₀) v (memory_of n (length types) memory)
      × (take p code ++ number_words (sections_with types constants locals tables) leaders p v (drop p code₀) ≡ number_words (sections_with types constants locals tables) leaders 0 empty code₀)

module _ {code₀ leaders types constants : List ℕ} {n : ℕ} where
  pub progress_start : {memory : List ℕ} → length code₀ ≡ n → (memory₀ : List ℕ) → Begins n (length types) memory₀ memory
      → Progress code₀ leaders types constants n code₀ memory 0
  progress_start e memory₀ b =
      record {
        here = omega arith;
        size = e;
        size₀ = e;
        ready = b.ready;
        constants_few = omega (arith, b.constants);
        expressions_few = omega (arith, b.expressions);
        epochs_few = omega (arith, b.epoch);
        later = λ q h. refl;
        walk = λ locals tables. (empty, b.holds types (dest_of code₀), refl);
      }

  -- room for a turn
  module _ {code memory : List ℕ} {p : ℕ} (g : Progress code₀ leaders types constants n code memory p) (l : p < n) where
    pub turn_room : n ≤ 65536 → Room n (length types) memory
    turn_room few =
        record {
          ready = g.ready;
          constants = omega (arith, g.constants_few);
          expressions = omega (arith, g.expressions_few);
          epoch = omega (arith, g.epochs_few);
        }

    pub progress_turn : {leader w : ℕ} {x : ℕ} {memory' : List ℕ} → leader ≡ get_or leaders p 0 → w ≡ get_or code p 0 → Turns n types constants leader w p memory x memory'
        → Progress code₀ leaders types constants n (set code p x) memory' (p + 1)
    unfolding number_words
    progress_turn {leader} {w} {x} {memory'} q r b =
        let same : w ≡ get_or code₀ p 0 = r ∙ g.later p (omega arith) in
        let inside : p < length code = omega (arith, g.size) in
        let inside₀ : p < length code₀ = omega (arith, g.size₀) in
        record {
          here = omega arith;
          size = length-set code p x ∙ g.size;
          size₀ = g.size₀;
          ready = b.kept.ready;
          constants_few = omega (arith, b.kept.constants, g.constants_few);
          expressions_few = omega (arith, b.kept.expressions, g.expressions_few);
          epochs_few = omega (arith, b.kept.epochs, g.epochs_few);
          later = λ i h. get_or-set_other code p i x 0 (λ e. omega arith) ∙ g.later i (omega arith);
          walk = λ locals tables.
              let k = g.walk locals tables in
              let s : Stands n p (of_word w) (dest_of code₀) = rw same (stands code₀ n p l) in
              let y = b.holds (dest_of code₀) locals tables k.0 s k.1 in (
                (number (sections_with types constants locals tables) p (of_word w) (cond (eqb leader 1) empty k.0)).table,
                y.1,
                rw (add-one p, take-suc-set code p x inside)
                    (append_assoc (take p code) (x ∷ []) _
                    ∙ rw (y.0, q, same) (ap (λ (z : List ℕ). take p code ++ number_words (sections_with types constants locals tables) leaders p k.0 z) (sym (drop-cons code₀ p 0 inside₀)) ∙ k.2)),
              );
        }

  pub progress_end : {code memory : List ℕ} {p : ℕ} → Progress code₀ leaders types constants n code memory p → n ≤ p → (metadata : List ℕ) (locals : ℕ) (tables : Tables)
      → code ≡ map (λ (x : Cell). to_word x.instruction) (number_code (sections_with types constants locals tables) leaders (cells_by code₀ metadata))
  unfolding number_words
  progress_end {code} {memory} {p} g h metadata locals tables =
      let k = g.walk locals tables in
      let at : p ≡ n = omega (arith, g.here) in
      let all : take p code ≡ code = take_all p code (omega (arith, g.size)) in
      let none : drop p code₀ ≡ [] = ap (λ (i : ℕ). drop i code₀) (at ∙ sym g.size₀) ∙ drop-length code₀ in
      let whole = k.2 in
      let done : code ++ number_words (sections_with types constants locals tables) leaders p k.0 [] ≡ number_words (sections_with types constants locals tables) leaders 0 empty code₀ = rw (all, none) at whole in
      sym (append-nil code) ∙ done ∙ sym (code_words_lem (sections_with types constants locals tables) leaders code₀ metadata)

-- ---- the code and, after it, the table in one memory

-- a table written after n words
module _ (n : ℕ) (w t : List ℕ) (room : n ≤ length w) (l : length t ≡ length (mid_of n (length w - n) w)) where
  table_long : length t ≡ length w - n
  table_long = l ∙ mid_long w n (length w - n) (omega arith)

  pub whole_long : length (put_mid n (length w - n) w t) ≡ length w
  whole_long = put_long w n (length w - n) t table_long (omega arith)

  table_back : mid_of n (length w - n) (put_mid n (length w - n) w t) ≡ t
  table_back = mid_put w n (length w - n) t table_long (omega arith)

  pub code_before : mid_of 0 n (put_mid n (length w - n) w t) ≡ mid_of 0 n w
  code_before =
      outside_front n (length w - n)
      (outside_part n (length w - n) (outside_same n (length w - n) w) n (length w - n) 0 t (omega arith) (omega arith) table_long (omega arith))
      n (omega arith)

pub record Numbering (leaders types constants : List ℕ) (xs w : List ℕ) (p : ℕ) : Type 0 where
  pub long : length w ≡ length xs
  pub progress : Progress (mid_of 0 (length leaders) xs) leaders types constants (length leaders) (mid_of 0 (length leaders) w) (mid_of (length leaders) (length w - length leaders) w) p

module _ {leaders types constants : List ℕ} where
  pub numbering_start : (xs t : List ℕ) → length leaders ≤ length xs → length t ≡ length (mid_of (length leaders) (length xs - length leaders) xs)
      → Begins (length leaders) (length types) (mid_of (length leaders) (length xs - length leaders) xs) t
      → Numbering leaders types constants (put_mid (length leaders) (length xs - length leaders) xs t) (put_mid (length leaders) (length xs - length leaders) xs t) 0
  numbering_start xs t room l b =
      let n = length leaders in
      let ys = put_mid n (length xs - n) xs t in
      let table : mid_of n (length ys - n) ys ≡ t = ap (λ (k : ℕ). mid_of n (k - n) ys) (whole_long n xs t room l) ∙ table_back n xs t room l in
      let code : length (mid_of 0 n ys) ≡ n = ap length (code_before n xs t room l) ∙ mid_long xs 0 n (omega arith) in
      record { long = refl; progress = rw table (progress_start code (mid_of n (length xs - n) xs) b) }

  pub numbering_turn : {xs w t : List ℕ} {p leader : ℕ} {x : ℕ} → Numbering leaders types constants xs w p → p < length leaders → length leaders ≤ length w
      → leader ≡ get_or leaders p 0 → length t ≡ length (mid_of (length leaders) (length w - length leaders) w)
      → Turns (length leaders) types constants leader (get_or w p 0) p (mid_of (length leaders) (length w - length leaders) w) x t
      → Numbering leaders types constants xs (set (put_mid (length leaders) (length w - length leaders) w t) p x) (p + 1)
  numbering_turn {xs} {w} {t} {p} {leader} {x} g h room q l b =
      let n = length leaders in
      let ys = put_mid n (length w - n) w t in
      let same : length (set ys p x) ≡ length w = length-set ys p x ∙ whole_long n w t room l in
      let word : get_or w p 0 ≡ get_or (mid_of 0 n w) p 0 = sym (get_mid w 0 n p 0 h ∙ rw (zero-add p)) in
      let code : mid_of 0 n (set ys p x) ≡ set (mid_of 0 n w) p x = (rw (zero-add p) at (mid_set ys 0 n p x h)) ∙ ap (λ (c : List ℕ). set c p x) (code_before n w t room l) in
      let table : mid_of n (length (set ys p x) - n) (set ys p x) ≡ t
      = ap (λ (k : ℕ). mid_of n (k - n) (set ys p x)) same ∙ mid_set_before ys n (length w - n) p x h ∙ table_back n w t room l in
      record { long = same ∙ g.long; progress = rw (code, table) (progress_turn g.progress h q word b) }

-- no code
pub no_code : (code leaders types constants : List ℕ) → length code ≡ 0 → (metadata : List ℕ) (locals : ℕ) (tables : Tables)
    → code ≡ map (λ (x : Cell). to_word x.instruction) (number_code (sections_with types constants locals tables) leaders (cells_by code metadata))
unfolding number_words
no_code [] leaders types constants e metadata locals tables = sym (code_words_lem (sections_with types constants locals tables) leaders [] metadata)
no_code (w ∷ ws) leaders types constants e metadata locals tables = absurd (omega arith)
