use mathlib.Core.Path.{sym, ◌∙◌}
use Rattle.numbering.proofs.Walking.{known_low, known_none, known_found, known_new}
use Rattle.numbering.proofs.walk.by_number.Goals as goal

pub known-requires : goal.known-requires
known-requires c = (c.requires.0, rw (← c.bucket-b.ensures.0) c.first_expression-first.ensures)

pub copy_or_stay-requires : goal.copy_or_stay-requires
copy_or_stay-requires c =
    let w = known_low _ c.requires.0.ready c.known.ensures c.in-Some.is in
    (w.0, c.requires.1, w.1)

pub returns-in-Some : goal.returns-in-Some
returns-in-Some c =
    known_found c.args.i c.args.p c.args.left c.args.right c.requires.3 c.requires.4 c.expression_word-word.ensures.2 c.known.ensures c.requires.5 _ c.in-Some.is c.copy_or_stay.ensures

pub define-requires : goal.define-requires
define-requires c =
    let w = c.expression_word-word.ensures in
    let b = c.bucket-b.ensures in
    let none = known_none c.known.ensures c.in-None.is in
    rw none.1 (
      c.requires.0,
      c.requires.1,
      c.requires.2,
      b.0,
      b.1,
      c.first_expression-first.ensures,
      record {
        op = c.args.i.op;
        flags = c.args.i.flags;
        left = c.args.left;
        right = c.args.right;
        op_fits = w.0;
        flags_fits = w.1;
        left_low = c.requires.3;
        right_low = c.requires.4;
        is = w.2;
      },
      sym none.2 ∙ c.in-None.is,
    )

pub returns-in-None : goal.returns-in-None
returns-in-None c =
    let w = c.expression_word-word.ensures in
    known_new c.args.i c.args.p c.args.left c.args.right c.requires.3 c.requires.4 w.2 c.known.ensures c.in-None.is w.0 w.1 c.define.ensures
