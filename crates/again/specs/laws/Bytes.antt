-- A unit again is a list of bytes.
-- Assumes nothing.
use Rattle.std.specs.Prelude.{List, [], ◌∷◌, ◌++◌, ℕ, zero, suc, ◌*◌, ◌/◌, ◌<◌, length, get_or}
use Rattle.std.proofs.Common.{arith}
use borrow.Rule.Slice.PartMut.{mid_of}
use Rattle.words.specs.Bytes.{Bytes}
use Rattle.words.specs.laws.Bytes.{bytes_mid}
use Rattle.words.specs.Le.{to_le}
use Rattle.unit.specs.Entry.{metadata_bytes, line_bytes}
use Rattle.unit.specs.Layout.{header_of}
use Rattle.unit.specs.Size.{constant_size, function_size, extern_size, case_size}
use Rattle.unit.specs.declared.Line.{Line}
use Rattle.unit.specs.declared.Metadata.{Metadata}
use Rattle.unit.specs.laws.UnitLaws.{MetadataFields}
use Rattle.effects.specs.Shape.{Cell, no_cell}
use Rattle.lines.specs.laws.Moving.{no_line}
use Rattle.again.specs.Again.{bytes_of, header_with, header_bytes, cell_code, cell_metadata, unit_of}
use Rattle.again.specs.laws.Function.{AllFields}

-- a list of bytes, as a record, so that the list is found from it
record AllBytes (l : List ℕ) : Type 0 where
  pub bytes : Bytes l

bytes_cons : {x : ℕ} {l : List ℕ} → x < 256 → AllBytes l → AllBytes (x ∷ l)
bytes_cons {x} {l} h b = record { bytes = go }
  where
    go : Bytes (x ∷ l)
    go zero = h
    go (suc i) = b.bytes i

bytes_join : {a l : List ℕ} → AllBytes a → AllBytes l → AllBytes (a ++ l)
bytes_join {a} {l} b c = record { bytes = go a b.bytes }
  where
    go : (a : List ℕ) → Bytes a → Bytes (a ++ l)
    go [] b i = c.bytes i
    go (x ∷ a) b zero = b 0
    go (x ∷ a) b (suc i) = go a (λ i. b (suc i)) i

bytes_to_le : (k v : ℕ) → AllBytes (to_le k v)
unfolding to_le
bytes_to_le zero v = record { bytes = λ i. omega arith }
bytes_to_le (suc k) v = bytes_cons (omega arith) (bytes_to_le k (v / 256))

bytes_all : {A : Type 0} (bytes : A → List ℕ) (d : A) (xs : List A) → ((k : ℕ) → k < length xs → AllBytes (bytes (get_or xs k d))) → AllBytes (bytes_of bytes xs)
unfolding bytes_of
bytes_all bytes d [] f = record { bytes = λ i. omega arith }
bytes_all bytes d (x ∷ xs) f = bytes_join (f 0 (omega arith)) (bytes_all bytes d xs (λ k h. f (suc k) (omega arith)))

metadata_bytes_lem : (d : Metadata) → MetadataFields d → AllBytes (metadata_bytes d)
unfolding metadata_bytes
metadata_bytes_lem d f =
    let front = bytes_cons f.kind_fits (bytes_cons f.ok_fits (bytes_to_le 2 d.array)) in
    bytes_join (bytes_join (bytes_join front (bytes_to_le 4 d.first)) (bytes_to_le 4 d.second)) (bytes_to_le 4 d.end)

line_bytes_lem : (e : Line) → AllBytes (line_bytes e)
unfolding line_bytes
line_bytes_lem e = bytes_join (bytes_to_le 4 e.place) (bytes_to_le 4 e.line)

pub again_bytes : (u : List ℕ) (cells : List Cell) (lines : List Line) → Bytes u → AllFields cells → Bytes (unit_of u cells lines)
unfolding unit_of
again_bytes u cells lines b f =
    let h = header_of u in
    let part : (at size : ℕ) → AllBytes (mid_of at size u) = λ at size. record { bytes = bytes_mid at size u b } in
    let header : AllBytes (header_bytes (header_with h.counts (length cells) (length lines))) = bytes_all (to_le 4) 0 _ (λ k l. bytes_to_le 4 _) in
    let code = bytes_join header (bytes_all cell_code no_cell cells (λ k l. bytes_to_le 8 _)) in
    let metadata = bytes_join code (bytes_all cell_metadata no_cell cells (λ k l. metadata_bytes_lem _ (f.metadata k l))) in
    let types = bytes_join metadata (part h.offsets.types h.counts.types) in
    let constants = bytes_join types (part h.offsets.constants (constant_size * h.counts.constants)) in
    let functions = bytes_join constants (part h.offsets.functions (function_size * h.counts.functions)) in
    let externs = bytes_join functions (part h.offsets.externs (extern_size * h.counts.externs)) in
    let cases = bytes_join externs (part h.offsets.cases (case_size * h.counts.cases)) in
    (bytes_join cases (bytes_all line_bytes no_line lines (λ k l. line_bytes_lem _))).bytes
