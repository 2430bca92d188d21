use native.Mathlib.Omega.{arith}
use Rattle.words.specs.Bytes.{Bytes}
use Rattle.again.specs.Again.{header_bytes}
use Rattle.again.proofs.Writing.{Begins, begins_long, coded_bytes, described_bytes, shared_bytes, parts_of, code_fits, metadata_fits, others_fit, wrote_header, wrote_code, wrote_metadata, wrote_others, wrote_lines, unit_written}
use Rattle.again.proofs.write.Goals as goal
use Rattle.again.proofs.write.Tie as tie
use Rattle.again.proofs.write.Lts
use Rattle.again.proofs.write.Reads

abbrev After-copy : Type 0
After-copy = Lts.After-copy tie.the-claims Reads.Pre Reads.Post tie.handed_clauses

abbrev After-copy-2 : Type 0
After-copy-2 = Lts.After-copy2 tie.the-claims Reads.Pre Reads.Post tie.handed_clauses

abbrev After-copy-3 : Type 0
After-copy-3 = Lts.After-copy3 tie.the-claims Reads.Pre Reads.Post tie.handed_clauses

abbrev After-copy-4 : Type 0
After-copy-4 = Lts.After-copy4 tie.the-claims Reads.Pre Reads.Post tie.handed_clauses

abbrev After-word-types_at : Type 0
After-word-types_at = Lts.After-word3 tie.the-claims Reads.Pre Reads.Post tie.handed_clauses

abbrev After-write_header : Type 0
After-write_header = Lts.After-write_header tie.the-claims Reads.Pre Reads.Post tie.handed_clauses

abbrev Start : Type 0
Start = Lts.Start tie.the-claims Reads.Pre Reads.Post tie.handed_clauses

-- ---- the stations: where the header is written, each part is, and the start
abbrev words : After-write_header → After-word-types_at
words c = c.before.before

abbrev start : After-word-types_at → Start
start c = c.before.before.before.before.before.before.before.before.before.before.before.before

abbrev first : After-copy → After-write_header
first c = c.before.before.before.before

abbrev second : After-copy-2 → After-copy
second c = c.before.before.before.before

abbrev third : After-copy-3 → After-copy-2
third c = c.before.before.before.before

abbrev fourth : After-copy-4 → After-copy-3
fourth c = c.before.before.before.before

-- ---- what is written at each
headed : (c : After-write_header) → Begins (start (words c)).args.out.now c.write_header.new.out (header_bytes (start (words c)).args.h)
headed c = let s = start (words c) in wrote_header s.args.out.now (parts_of s.requires.writable) c.write_header.ensures.out

coded : (c : After-copy) → Begins (start (words (first c))).args.out.now c.copy.new.to (coded_bytes (start (words (first c))).args.res.now (start (words (first c))).args.h)
coded c = let s = start (words (first c)) in wrote_code s.args.out.now (parts_of s.requires.writable) (headed (first c)) c.copy.ensures.to

described : (c : After-copy-2)
    → Begins (start (words (first (second c)))).args.out.now c.copy-2.new.to (described_bytes (start (words (first (second c)))).args.res.now (start (words (first (second c)))).args.h)
described c =
    let w = words (first (second c)) in
    let s = start w in
    wrote_metadata s.args.out.now (parts_of s.requires.writable) _ w.word-metadata_at.ensures.value (coded (second c)) c.copy-2.ensures.to

shared : (c : After-copy-3)
    → Begins (start (words (first (second (third c))))).args.out.now c.copy-3.new.to
    (shared_bytes (start (words (first (second (third c))))).args.unit.now (start (words (first (second (third c))))).args.res.now (start (words (first (second (third c))))).args.h)
shared c =
    let w = words (first (second (third c))) in
    let s = start w in
    wrote_others s.args.out.now (parts_of s.requires.writable) _ w.word-types_at.ensures.0 (described (third c)) c.copy-3.ensures.to

-- ---- the needs
pub overflow_mul-code : goal.overflow_mul-code
overflow_mul-code c = let p = parts_of c.requires.writable in record { fits = omega (arith, p.code_in_lem) }

pub overflow_mul-metadata : goal.overflow_mul-metadata
overflow_mul-metadata c = let p = parts_of c.requires.writable in record { fits = omega (arith, p.metadata_in_lem) }

pub overflow_sub-others : goal.overflow_sub-others
overflow_sub-others c = (parts_of c.requires.writable).lines_at

pub overflow_mul-lines : goal.overflow_mul-lines
overflow_mul-lines c = let p = parts_of c.requires.writable in record { fits = omega (arith, p.lines_in_lem) }

pub word-types_at-requires : goal.word-types_at-requires
word-types_at-requires c = let p = parts_of c.requires.writable in (p.header_in, omega arith)

pub write_header-requires : goal.write_header-requires
write_header-requires c = let p = parts_of (start c.before.before).requires.writable in record { room = omega (arith, p.code_at, code_fits p) }

pub copy-requires : goal.copy-requires
copy-requires c =
    let p = parts_of (start (words c.before.before.before.before)).requires.writable in record { inside = p.code_in_lem; room = omega (arith, code_fits p, begins_long (headed c.before.before.before.before)) }

pub copy-requires-2 : goal.copy-requires-2
copy-requires-2 c =
    let w = words (first c.before.before.before.before) in
    let p = parts_of (start w).requires.writable in record { inside = rw w.word-metadata_at.ensures.value p.metadata_in_lem; room = omega (arith, metadata_fits p, begins_long (coded c.before.before.before.before)) }

pub copy-requires-3 : goal.copy-requires-3
copy-requires-3 c =
    let w = words (first (second c.before.before.before.before)) in
    let p = parts_of (start w).requires.writable in record { inside = rw w.word-types_at.ensures.0 p.others_in; room = omega (arith, others_fit p, begins_long (described c.before.before.before.before)) }

pub copy-requires-4 : goal.copy-requires-4
copy-requires-4 c =
    let w = words (first (second (third c.before.before.before.before))) in
    let p = parts_of (start w).requires.writable in record { inside = rw w.word-lines_at.ensures.value p.lines_in_lem; room = omega (arith, p.fits, begins_long (shared c.before.before.before.before)) }

pub returns : goal.returns
returns c =
    let w = words (first (second (third (fourth c.before.before.before)))) in
    let s = start w in
    let bytes : Bytes s.args.res.now = λ i. omega (arith, w.shared_slice_known-2-1.given i) in record {
      out = unit_written s.args.out.now s.requires.writable bytes
          (wrote_lines s.args.out.now (parts_of s.requires.writable) _ w.word-lines_at.ensures.value (shared (fourth c.before.before.before)) c.copy-4.ensures.to);
    }
