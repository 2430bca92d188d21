use Rattle.std.specs.Prelude.{Err}
use mathlib.Core.Path.{sym, ap, ◌∙◌}
use Prim.Native.Nat.{◌+◌, ◌*◌, ◌^◌, ◌<◌}
use native.Mathlib.Omega.{arith}
use Rattle.std.proofs.lemmas.Result.{err_from_is_err_and}
use Rattle.unit.specs.Size.{line_size}
use Rattle.again.proofs.Answering.{unit_refused, none_found, Found, result_found, no_longer, Headed, lines_below, short_room, may_write, written}
use Rattle.again.proofs.lay_out.Goals as goal
use Rattle.again.proofs.lay_out.Goals.{Else-not-is_result_of, After-header_with-h}

-- ---- the stations: the test of the result, and the header of the unit again
found : (c : Else-not-is_result_of) → Found c.args.unit.now c.args.res.now c.in_ok-given.given
found c =
    record {
      checked = sym c.check.ensures ∙ c.in_ok-given.was;
      found = sym c.is_result_of.ensures.answer ∙ c.if-not-is_result_of.false;
    }

headed : (c : After-header_with-h) → Found c.args.unit.now c.args.res.now c.in_ok-given.given
    → Headed c.args.unit.now c.args.res.now c.in_ok-given.given c.header_with-h.result c.word.result c.word-l.result
headed c f =
    record {
      of = f;
      many = c.word.ensures.value;
      lined = c.word-l.ensures.value;
      header = c.header_with-h.ensures.header;
    }

-- ---- the needs
pub returns-in_err-given : goal.returns-in_err-given
returns-in_err-given c =
    let p = err_from_is_err_and c.from_residual.result c.from_residual.ensures.1 in
    let all = unit_refused _ _ _ _ _ (sym c.check.ensures ∙ c.in_err-given.was) in record { answer = rw (p.1, p.2) all.0; out = all.1 }

pub returns-then-not-is_result_of : goal.returns-then-not-is_result_of
returns-then-not-is_result_of c = let all = none_found _ _ _ _ (sym c.check.ensures ∙ c.in_ok-given.was)
    (sym c.is_result_of.ensures.answer ∙ c.if-not-is_result_of.true) in record { answer = all.0; out = all.1 }

pub word-l-requires : goal.word-l-requires
word-l-requires c = let r = result_found (found (goal.at.word-l-requires c).Else-not-is_result_of) in record { inside = omega (arith, r.header) }

pub word-requires : goal.word-requires
word-requires c = let r = result_found (found (goal.at.word-requires c).Else-not-is_result_of) in record { inside = omega (arith, r.header) }

pub header_with-h-requires : goal.header_with-h-requires
header_with-h-requires c = record { fits = rw (c.word.ensures.value, c.word-l.ensures.value) (omega (arith, no_longer (found (goal.at.header_with-h-requires c).Else-not-is_result_of))) }

pub overflow_add-end : goal.overflow_add-end
overflow_add-end c =
    let way = goal.at.overflow_add-end c in
    let h = headed way.After-header_with-h (found way.Else-not-is_result_of) in
    let sum : c.header_with-h.result.offsets.lines + line_size * c.word-l.result < 2 ^ 64 = omega (arith, lines_below h, c.word-l.ensures.fits, c.well_formed.0) in
    record { fits = sum }

pub returns-then-out-end : goal.returns-then-out-end
returns-then-out-end c =
    let way = goal.at.returns-then-out-end c in
    let all = short_room (headed way.After-header_with-h (found way.Else-not-is_result_of)) _ c.if-out-end.true in
    record { answer = ap Err c.at.ensures.refusal ∙ all.0; out = all.1 }

pub write-requires : goal.write-requires
write-requires c =
    let way = goal.at.write-requires c in
    record { writable = may_write (headed way.After-header_with-h (found way.Else-not-is_result_of)) c.args.out.now c.if-out-end.false }

pub returns : goal.returns
returns c =
    let way = goal.at.returns c in
    let all = written (headed way.After-header_with-h (found way.Else-not-is_result_of)) _ _ c.if-out-end.false c.write.ensures.out in
    record { answer = all.0; out = all.1 }
