-- What the rows of the tables say, for each opcode.
-- Assumes nothing.
use Rattle.std.specs.Prelude.{◌≡◌, Bool, true, false, cond, List, [], ◌∷◌, map, ℕ, zero, suc, ◌/◌, ◌%◌, ◌*◌, ◌+◌, ◌^◌, ◌≤◌, ◌<◌, eqb, leb, ltb, length, get_or}
use Rattle.std.proofs.Math.Path.{refl}
use Rattle.std.proofs.Common.{sym, ap, ◌∙◌, pow-suc, div-one, mul_comm, arith, pow-add, ltb-true, ltb-false, leb-true, ne_eqb}
use Rattle.std.proofs.Math.Nat.{div-div-eq-div-mul}
use Rattle.std.proofs.Math.ListN.{get_or-map, get_or-eq_default}
use Rattle.words.specs.Lists.{is_in, every, tabulate, tabulate_from}
use Rattle.words.specs.laws.Lists.{every_at, get_d_tabulate}
use Rattle.effects.specs.Shape.{nothing, field_a, fixed, part, Shape}
use Rattle.instruction.specs.Opcode as op
use Rattle.effects.specs.Table.{Arm, shape, shape_in, read_rows, read_shape, write_rows, write_shape, array_rows, array_shape}
use Rattle.effects.specs.laws.Form.{forms, form_at, unpack, no_part, rows, row_of, reads_of, writes_of, read_parts, write_parts, demand_at, demand_rows, demand_row_of, demands_of, demands}

-- a table is right everywhere if its entries, read, are what they should be, and what stands for the others is
by_table : {A : Type 0} (read right : ℕ → A) (table : List ℕ) (n other : ℕ) → map read table ≡ tabulate n right → length table ≡ n
    → ((o : ℕ) → n ≤ o → read other ≡ right o) → (o : ℕ) → read (get_or table o other) ≡ right o
by_table read right table n other e long past o = go (ltb o n) refl
  where
    go : (t : Bool) → ltb o n ≡ t → read (get_or table o other) ≡ right o
    go true q =
        sym (get_or-map read table o other) ∙ ap (λ (l : List _). get_or l o (read other)) e
        ∙ get_d_tabulate n right o (read other) (ltb-true o n q)
    go false q =
        let h : n ≤ o = ltb-false o n q in
        let out : length table ≤ o = rw long h in
        rw (get_or-eq_default table other out) (past o h)

-- the number of forms of a row, and the k-th of them
pub unpack_long : (n v : ℕ) → length (unpack n v) ≡ n
unfolding unpack
unpack_long zero v = refl
unpack_long (suc n) v = ap suc (unpack_long n (v / 256))

pub unpack_at : (n v k : ℕ) → k < n → get_or (unpack n v) k no_part ≡ form_at (v / 256 ^ k % 256)
unfolding unpack
unpack_at zero v k h = absurd (omega arith)
unpack_at (suc n) v zero h = rw div-one
unpack_at (suc n) v (suc k) h = unpack_at n (v / 256) k (omega arith) ∙ rw (div-div-eq-div-mul v 256 (256 ^ k), pow-suc 256 k, mul_comm (256 ^ k) 256)

-- a byte is eight bits
pub pow_bytes : (k : ℕ) → 2 ^ (8 * k) ≡ 256 ^ k
pow_bytes zero = refl
pow_bytes (suc k) =
    let more : 8 * suc k ≡ 8 * k + 8 = omega arith in
    rw (more, pow-add 2 (8 * k) 8, pow-suc 256 k, pow_bytes k)

-- an opcode past those that a list of rows names has the shape of the others
below : ℕ → List ℕ → Bool
below n [] = true
below n (y ∷ ys) = let rest = below n ys in cond (ltb y n) rest false

names_below : ℕ → List Arm → Bool
names_below n [] = true
names_below n (r ∷ rs) = let rest = names_below n rs in cond (below n r.opcodes) rest false

is_in_past : (n o : ℕ) (ys : List ℕ) → n ≤ o → below n ys ≡ true → is_in o ys ≡ false
unfolding below
is_in_past n o [] h e = refl
is_in_past n o (y ∷ ys) h e = go (ltb y n) refl e (λ e. is_in_past n o ys h e)
  where
    go : (t : Bool) → ltb y n ≡ t → cond t (below n ys) false ≡ true → (below n ys ≡ true → is_in o ys ≡ false) → cond (eqb o y) true (is_in o ys) ≡ false
    go true q e f =
        let less : y < n = ltb-true y n q in
        rw (ne_eqb o y (λ s. omega arith)) (f e)
    go false q e f = let z : ◌≡◌ {A = ℕ} 0 1 = cc in absurd (omega arith)

shape_past : (n o : ℕ) (rs : List Arm) (other : Shape) → n ≤ o → names_below n rs ≡ true → shape_in rs other o ≡ other
unfolding names_below shape_in
shape_past n o [] other h e = refl
shape_past n o (r ∷ rs) other h e = go (below n r.opcodes) refl e (λ e. shape_past n o rs other h e)
  where
    go : (t : Bool) → below n r.opcodes ≡ t → cond t (names_below n rs) false ≡ true → (names_below n rs ≡ true → shape_in rs other o ≡ other)
        → cond (is_in o r.opcodes) r.shape (shape_in rs other o) ≡ other
    go true q e f = rw (is_in_past n o r.opcodes h q) (f e)
    go false q e f = let z : ◌≡◌ {A = ℕ} 0 1 = cc in absurd (omega arith)

module _ (o : ℕ) (h : op.max_valid < o) where
  pub reads_past : read_shape o ≡ shape nothing []
  unfolding read_shape names_below below
  reads_past = shape_past 136 o read_rows (shape nothing []) h refl

  pub arrays_past : array_shape o ≡ shape nothing []
  unfolding array_shape names_below below
  arrays_past = shape_past 136 o array_rows (shape nothing []) h refl

  pub writes_past : write_shape o ≡ shape nothing (part field_a (fixed 1) ∷ [])
  unfolding write_shape names_below below
  writes_past = shape_past 136 o write_rows (shape nothing (part field_a (fixed 1) ∷ [])) h refl

-- ---- the tables

pub rows_read : (o : ℕ) → reads_of (row_of o) ≡ read_parts o
unfolding forms form_at unpack read_shape array_shape shape_in tabulate tabulate_from
rows_read = by_table reads_of read_parts rows 136 0x10 refl refl (λ o h. rw (reads_past o h, arrays_past o h))

pub rows_write : (o : ℕ) → writes_of (row_of o) ≡ write_parts o
unfolding forms form_at unpack write_shape shape_in tabulate tabulate_from
rows_write = by_table writes_of write_parts rows 136 0x10 refl refl (λ o h. ap (λ (s : Shape). s.parts) (sym (writes_past o h)))

pub rows_demand : (o : ℕ) → demands_of (demand_row_of o) ≡ demands o
unfolding demand_at read_shape array_shape write_shape shape_in tabulate tabulate_from
rows_demand = by_table demands_of demands demand_rows 136 0 refl refl (λ o h. rw (reads_past o h, arrays_past o h, writes_past o h))

-- at most four ranges are read by a row, and two written
few : (table : List ℕ) (n other : ℕ) (f : ℕ → ℕ) (most : ℕ) → length table ≡ n → every n (λ o. leb (f (get_or table o other)) most) ≡ true → f other ≤ most
    → (o : ℕ) → f (get_or table o other) ≤ most
few table n other f most long e h o = go (ltb o n) refl
  where
    go : (t : Bool) → ltb o n ≡ t → f (get_or table o other) ≤ most
    go true q = leb-true (f (get_or table o other)) most (every_at n (λ o. leb (f (get_or table o other)) most) e o (ltb-true o n q))
    go false q =
        let out : length table ≤ o = rw long (ltb-false o n q) in
        rw (get_or-eq_default table other out) h

pub reads_few : (o : ℕ) → row_of o % 16 ≤ 4
unfolding every
reads_few = few rows 136 0x10 (λ r. r % 16) 4 refl refl (omega arith)

pub writes_few : (o : ℕ) → row_of o / 16 % 16 ≤ 2
unfolding every
writes_few = few rows 136 0x10 (λ r. r / 16 % 16) 2 refl refl (omega arith)
