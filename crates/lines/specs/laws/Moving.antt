-- The sweep over the lines: what is written after each entry.
-- Assumes nothing.
use Rattle.std.specs.Prelude.{◌≡◌, refl, Bool, true, false, cond, ◌&&◌, List, [], ◌∷◌, ◌++◌, ℕ, zero, suc, ◌+◌, ◌*◌, ◌/◌, ◌-◌, ◌^◌, ◌≤◌, ◌<◌, eqb, ltb, length, get_or, take, drop}
use Rattle.std.proofs.Common.{sym, ap, ◌∙◌, append_assoc, append-nil, add-zero, add-one, arith, length-append, length-drop, take-append-drop, take-suc, take_all, take_at, drop_at, drop-drop, get_or-take, get_or-drop, length-take-le, eqb-true, lt-ltb}
use Rattle.std.proofs.Math.Seq.{drop-append-add}
use Rattle.std.proofs.lemmas.Bool.{eqb-false}
use borrow.Rule.Slice.PartMut.{mid_of, put_mid, post_of}
use Rattle.words.specs.laws.Lists.{length_tabulate, get_d_tabulate}
use Rattle.words.specs.laws.Only.{back_before}
use Rattle.words.specs.laws.Regions.{mid_long}
use Rattle.unit.specs.declared.Line.{Line}
use Rattle.unit.specs.Entry.{line_at, line_bytes, lines_in}
use Rattle.unit.specs.Result.{Retained, line_bytes_all, result_bytes, result_lines_at, result_places_at}
use Rattle.unit.specs.Size.{line_size, place_size, result_size}
use Rattle.unit.specs.laws.UnitLaws.{line_bytes_all_long}
use Rattle.lines.specs.Lines.{below, moved, moved_lines, places_of}
use Rattle.lines.specs.laws.Below.{Rising, places_in, below_mono}
use Rattle.lines.specs.laws.Moved.{onto, without, moved_last, without_last, without_free, moved_past}

abbrev pub no_line : Line
no_line = record { place = 0; line = 0 }

abbrev pub line_in : List Line → ℕ → Line
line_in ls i = get_or ls i no_line

-- "places strictly rising"
abbrev pub RisingLines : List Line → Type 0
RisingLines ls = (i j : ℕ) → i < j → j < length ls → (line_in ls i).place < (line_in ls j).place

-- a result of k instructions, without lines, at the front of a buffer
pub record Unlined (kept : List Retained) (k : ℕ) (out : List ℕ) : Type 0 where
  pub many : length kept ≡ k
  pub front : take (result_size k 0) out ≡ result_bytes kept []
  pub rising : Rising (places_of kept)
  pub small : (i : ℕ) → i < length (places_of kept) → get_or (places_of kept) i 0 < 2 ^ 32

-- the last ys of what was written from a on replaced by zs
put_last : (out xs ys zs : List ℕ) (a k j m r : ℕ) → length xs ≡ k → length ys ≡ j → m ≡ j + r → a ≤ length out
    → put_mid (a + k) m (put_mid a (k + j) out (xs ++ ys)) zs ≡ put_mid a (k + m) out (xs ++ zs)
put_last out xs ys zs a k j m r e f g room =
    let before = take a out ++ xs in
    let rest = post_of a (k + j) out in
    let long : length before ≡ a + k = length-append (take a out) xs ∙ rw (length-take-le a out room, e) in
    let split : put_mid a (k + j) out (xs ++ ys) ≡ before ++ (ys ++ rest) = simp append_assoc in
    let all : k + j + r ≡ k + m = omega arith in
    let past : drop m (ys ++ rest) ≡ post_of a (k + m) out =
    ap (λ (i : ℕ). drop i (ys ++ rest)) (g ∙ ap (λ (i : ℕ). i + r) (sym f)) ∙ drop-append-add ys rest r ∙ drop-drop r (k + j) (drop a out) ∙ ap (λ (i : ℕ). drop i (drop a out)) all in
    rw (split, take_at before (ys ++ rest) (a + k) long, drop_at before (ys ++ rest) (a + k) long, past) (simp append_assoc)

lines_append : (xs ys : List Line) → line_bytes_all (xs ++ ys) ≡ line_bytes_all xs ++ line_bytes_all ys
unfolding line_bytes_all
lines_append [] ys = refl
lines_append (x ∷ xs) ys = rw (lines_append xs ys) (sym (append_assoc (line_bytes x) (line_bytes_all xs) (line_bytes_all ys)))

one : (x : Line) → line_bytes_all (x ∷ []) ≡ line_bytes x
unfolding line_bytes_all
one x = append-nil (line_bytes x)

-- j entries are done: what they came to stands from a on, and the last of them landed on q
pub record MovedTo (places : List ℕ) (ls : List Line) (a : ℕ) (out₀ out : List ℕ) (j q count : ℕ) : Type 0 where
  pub entries : out ≡ put_mid a (line_size * count) out₀ (line_bytes_all (moved (below places) (length places) (take j ls)))
  pub many : count ≡ length (moved (below places) (length places) (take j ls))
  pub last : (i : ℕ) → j ≡ suc i → (q ≡ below places (line_in ls i).place) × (q < length places) × (0 < count)
  pub none : j ≡ 0 → (q ≡ 0) × (count ≡ 0)

pub moved_none : (places : List ℕ) (ls : List Line) (a : ℕ) (out : List ℕ) → MovedTo places ls a out out 0 0 0
unfolding moved line_bytes_all
moved_none places ls a out = record { entries = sym (take-append-drop a out); many = refl; last = λ i e. absurd (omega arith); none = λ e. (refl, refl) }

-- what is written, of which the next entry, that lands on b, replaces the last part
record Split (to : ℕ → ℕ) (n b : ℕ) (xs : List Line) (i : ℕ) : Type 0 where
  pub over : List Line
  pub parts : moved to n xs ≡ without to n b xs ++ over
  pub few : length over ≤ 1
  pub at : i ≡ length (without to n b xs)

module _ (to : ℕ → ℕ) (n b : ℕ) (xs : List Line) (count i : ℕ) (many : count ≡ length (moved to n xs)) where
  -- the last entry landed there
  split_over : (ys : List Line) (x : Line) → xs ≡ ys ++ (x ∷ []) → to x.place ≡ b → to x.place < n → i ≡ count - 1 → Split to n b xs i
  split_over ys x e f h at =
      let all : moved to n xs ≡ without to n b xs ++ (onto (to x.place) x ∷ []) = rw (e, without_last to n b ys x f) (moved_last to n ys x h ∙ ap (λ (k : ℕ). without to n k ys ++ (onto (to x.place) x ∷ [])) f) in
      let long : count ≡ length (without to n b xs) + 1 = many ∙ ap length all ∙ length-append (without to n b xs) (onto (to x.place) x ∷ []) in
      record { over = onto (to x.place) x ∷ []; parts = all; few = omega arith; at = omega arith }

  -- all landed before it
  split_after : ((k : ℕ) → k < length xs → to (line_in xs k).place < b) → i ≡ count → Split to n b xs i
  split_after f at =
      let same = without_free to n b xs no_line f in
      record { over = []; parts = sym same ∙ sym (append-nil (without to n b xs)); few = omega arith; at = at ∙ many ∙ ap length (sym same) }

module _ {places : List ℕ} {ls : List Line} {a : ℕ} {out₀ out : List ℕ} {j q count : ℕ} (m : MovedTo places ls a out₀ out j q count) (rise : RisingLines ls) where
  abbrev to : ℕ → ℕ
  to = below places

  abbrev n : ℕ
  n = length places

  abbrev done : List Line
  done = take j ls

  -- the boundary of the last entry is not above that of the next
  pub moved_onward : j < length ls → q ≤ below places (line_in ls j).place
  moved_onward h = go j refl
    where
      go : (i : ℕ) → j ≡ i → q ≤ to (line_in ls j).place
      go zero e = let z = (m.none e).0 in omega arith
      go (suc i) e =
          let low : (line_in ls i).place < (line_in ls j).place = rise i j (omega arith) h in
          let up = below_mono places (line_in ls i).place (line_in ls j).place (omega arith) in
          let same = (m.last i e).0 in
          omega arith

  module _ (h : j < length ls) (b i : ℕ) (there : b ≡ below places (line_in ls j).place) (inside : b < length places) (at : i ≡ cond (ltb 0 count && eqb b q) (count - 1) count) where
    before : (k : ℕ) → j ≡ suc k → q < b → (t : ℕ) → t < length done → to (line_in done t).place < b
    before k e g t l =
        let size : length done ≡ j = length-take-le j ls (omega arith) in
        let same : line_in done t ≡ line_in ls t = get_or-take j ls t no_line (omega arith) in
        let low : (line_in ls t).place ≤ (line_in ls k).place = go (eqb t k) refl (omega arith) in
        let up = below_mono places (line_in ls t).place (line_in ls k).place low in
        let last = (m.last k e).0 in
        rw same (omega arith)
      where
        go : (u : Bool) → eqb t k ≡ u → t ≤ k → (line_in ls t).place ≤ (line_in ls k).place
        go true f l = rw (eqb-true t k f) (omega arith)
        go false f l = let other : t ≡ k → ⊥ = eqb-false t k f in let r = rise t k (omega arith) (omega arith) in omega arith

    split : Split to n b done i
    split = go j refl
      where
        test : (k : ℕ) → j ≡ suc k → (u : Bool) → eqb b q ≡ u → i ≡ cond (true && u) (count - 1) count → Split to n b done i
        test k e true f g =
            let l = m.last k e in
            let same : b ≡ q = eqb-true b q f in
            split_over to n b done count i m.many (take k ls) (line_in ls k) (ap (λ (t : ℕ). take t ls) e ∙ take-suc ls k no_line (omega arith)) (sym l.0 ∙ sym same) (rw (← l.0) l.1) g
        test k e false f g =
            let other : b ≡ q → ⊥ = eqb-false b q f in
            let up = moved_onward h in
            split_after to n b done count i m.many (before k e (omega arith)) g

        go : (k : ℕ) → j ≡ k → Split to n b done i
        go zero e =
            let none = (m.none e).1 in
            let same : done ≡ [] = ap (λ (t : ℕ). take t ls) e in
            split_after to n b done count i m.many (λ t l. let z : length done ≡ 0 = ap length same in absurd (omega arith)) (at ∙ rw none)
        go (suc k) e = test k e (eqb b q) refl (at ∙ rw (lt-ltb 0 count (m.last k e).2))

    pub moved_turn : {out' : List ℕ} → a + line_size * length ls ≤ length out₀ → out' ≡ put_mid (a + line_size * i) line_size out (line_bytes (onto b (line_in ls j)))
        → MovedTo places ls a out₀ out' (j + 1) b (i + 1)
    moved_turn {out'} room e =
        let x = line_in ls j in
        let next : moved to n (take (j + 1) ls) ≡ without to n b done ++ (onto b x ∷ []) =
        rw (add-one j, take-suc ls j no_line h, there) (moved_last to n done x (rw (← there) inside)) in
        let s = split in
        let w = without to n b done in
        let over = s.over in
        let few = s.few in
        let position = s.at in
        let size : count ≡ length w + length over = m.many ∙ ap length s.parts ∙ length-append w over in
        let bytes : line_size * count ≡ line_size * i + line_size * length over = omega arith in
        let now : out ≡ put_mid a (line_size * i + line_size * length over) out₀ (line_bytes_all w ++ line_bytes_all over) = m.entries ∙ rw (bytes, s.parts, lines_append w over) in
        let long : length (line_bytes_all w) ≡ line_size * i = line_bytes_all_long w ∙ rw position in
        let put = put_last out₀ (line_bytes_all w) (line_bytes_all over) (line_bytes (onto b x)) a (line_size * i) (line_size * length over) line_size (line_size - line_size * length over) long (line_bytes_all_long over) (omega arith) (omega arith) in
        let more : line_size * i + line_size ≡ line_size * (i + 1) = omega arith in
        record {
          entries = rw (next, lines_append w (onto b x ∷ []), one (onto b x)) (e ∙ ap (λ (l : List ℕ). put_mid (a + line_size * i) line_size l (line_bytes (onto b x))) now ∙ put ∙ ap (λ (k : ℕ). put_mid a k out₀ (line_bytes_all w ++ line_bytes (onto b x))) more);
          many = rw next (sym (length-append w (onto b x ∷ []) ∙ rw position));
          last = λ k f. (there ∙ ap (λ (t : ℕ). below places (line_in ls t).place) (omega arith), inside, omega arith);
          none = λ f. absurd (omega arith);
        }

  -- all entries are done
  pub moved_all : length ls ≤ j → (count ≡ length (moved (below places) (length places) ls)) × (out ≡ put_mid a (line_size * count) out₀ (line_bytes_all (moved (below places) (length places) ls)))
  moved_all h = let whole : done ≡ ls = take_all j ls h in (m.many ∙ ap (λ (l : List Line). length (moved to n l)) whole, m.entries ∙ ap (λ (l : List Line). put_mid a (line_size * count) out₀ (line_bytes_all (moved to n l))) whole)

  -- all that are left go past the end
  pub moved_rest : j < length ls → length places ≡ below places (line_in ls j).place
      → (count ≡ length (moved (below places) (length places) ls)) × (out ≡ put_mid a (line_size * count) out₀ (line_bytes_all (moved (below places) (length places) ls)))
  moved_rest h past =
      let far : (i : ℕ) → i < length (drop j ls) → n ≤ to (line_in (drop j ls) i).place = λ i l.
      let inside : j + i < length ls = let d = length-drop j ls in omega arith in
      let up = below_mono places (line_in ls j).place (line_in ls (j + i)).place (later i inside) in
      rw (get_or-drop j ls i no_line) (omega arith) in
      let whole : moved to n done ≡ moved to n ls = sym (moved_past to n done (drop j ls) no_line far) ∙ ap (moved to n) (take-append-drop j ls) in
      (m.many ∙ ap length whole, m.entries ∙ ap (λ (l : List Line). put_mid a (line_size * count) out₀ (line_bytes_all l)) whole)
    where
      later : (i : ℕ) → j + i < length ls → (line_in ls j).place ≤ (line_in ls (j + i)).place
      later zero l = rw add-zero (omega arith)
      later (suc i) l = let r = rise j (j + suc i) (omega arith) l in omega arith

-- ---- the sweep in a result's bytes

-- the old places of a result of k instructions
abbrev pub old_places : ℕ → List ℕ → List ℕ
old_places k out = places_in (mid_of (result_places_at k) (place_size * k) out)

-- j of the lines are done
abbrev pub Swept : ℕ → List ℕ → List ℕ → List ℕ → ℕ → ℕ → ℕ → Type 0
Swept k lines out₀ out j q count = Rising (old_places k out₀) → RisingLines (lines_in lines) → MovedTo (old_places k out₀) (lines_in lines) (result_lines_at k) out₀ out j q count

-- what the sweep comes to
abbrev pub SweptAll : ℕ → List ℕ → List ℕ → List ℕ → ℕ → Type 0
SweptAll k lines out₀ out count = Rising (old_places k out₀) → RisingLines (lines_in lines)
    → (count ≡ length (moved_lines (old_places k out₀) (lines_in lines))) × (out ≡ put_mid (result_lines_at k) (line_size * count) out₀ (line_bytes_all (moved_lines (old_places k out₀) (lines_in lines))))

module _ (k : ℕ) (lines out₀ out : List ℕ) (j q count : ℕ) (swept : Swept k lines out₀ out j q count) (room : result_size k (length lines / line_size) ≤ length out₀) (few : count ≤ j) (most : j ≤ length lines / line_size) where
  abbrev places : List ℕ
  places = old_places k out₀

  abbrev ls : List Line
  ls = lines_in lines

  lines_long : length (lines_in lines) ≡ length lines / line_size
  lines_long = length_tabulate (length lines / line_size) _

  old_long : length (old_places k out₀) ≡ k
  old_long =
      let size : length (mid_of (result_places_at k) (place_size * k) out₀) ≡ place_size * k = mid_long out₀ (result_places_at k) (place_size * k) (omega arith) in
      length_tabulate (length (mid_of (result_places_at k) (place_size * k) out₀) / place_size) _ ∙ omega arith

  -- the entries stand behind the old places
  old_same : Rising (old_places k out₀) → RisingLines (lines_in lines) → old_places k out ≡ old_places k out₀
  old_same r s =
      let m = swept r s in
      let many = m.many in
      let written = line_bytes_all (moved_lines places (take j ls)) in
      let long : length written ≡ line_size * count = line_bytes_all_long (moved_lines places (take j ls)) ∙ rw many in
      ap places_in (ap (mid_of (result_places_at k) (place_size * k)) m.entries ∙ back_before out₀ (result_lines_at k) (line_size * count) written (omega arith) long (result_places_at k) (place_size * k) (omega arith))

  module _ (h : j < length lines / line_size) (e : Line) (read : e ≡ line_at lines j) (part : List ℕ) (whole : part ≡ mid_of (result_places_at k) (place_size * k) out) (b : ℕ)
      (found : Rising (places_in part) → q ≤ below (places_in part) e.place → b ≡ below (places_in part) e.place) where
    entry_in : line_in (lines_in lines) j ≡ e
    entry_in = get_d_tabulate (length lines / line_size) _ j no_line h ∙ sym read

    pub swept_boundary : Rising (old_places k out₀) → RisingLines (lines_in lines) → b ≡ below (old_places k out₀) (line_in (lines_in lines) j).place
    swept_boundary r s =
        let same : places_in part ≡ places = ap places_in whole ∙ old_same r s in
        let on = moved_onward (swept r s) s (rw lines_long h) in
        rw entry_in (rw same at (found (rw same r) (rw (same, ← entry_in) on)))

    pub swept_past : b ≡ k → SweptAll k lines out₀ out count
    swept_past end r s = moved_rest (swept r s) s (rw lines_long h) (old_long ∙ sym end ∙ swept_boundary r s)

    pub swept_turn : (i : ℕ) (out' : List ℕ) → b < k → i ≡ cond (ltb 0 count && eqb b q) (count - 1) count → out' ≡ put_mid (result_lines_at k + line_size * i) line_size out (line_bytes (onto b e)) → Swept k lines out₀ out' (j + 1) b (i + 1)
    swept_turn i out' inside at put r s =
        moved_turn (swept r s) s (rw lines_long h) b i (swept_boundary r s) (rw old_long inside) at (rw lines_long (omega arith)) (rw entry_in put)

  pub swept_all : length lines / line_size ≤ j → SweptAll k lines out₀ out count
  swept_all h r s = moved_all (swept r s) s (rw lines_long h)

-- what the code has: the old places as the part between two starts
pub old_part : (k o a : ℕ) (out : List ℕ) → o ≡ result_places_at k → a ≡ result_lines_at k → mid_of o (a - o) out ≡ mid_of (result_places_at k) (place_size * k) out
old_part k o a out e f = let size : a - o ≡ place_size * k = omega arith in rw (size, e)
