-- A run of the walk, of `mark_run`.
-- Assumes nothing.
use Rattle.std.proofs.Common.{◌≡◌, ℕ, ◌+◌, ◌*◌, ◌<◌, ◌≤◌, List, [], ◌∷◌, length, get_or, set, sym, refl, ◌∙◌, zero-add, arith, length-set, get_or-set_same}
use borrow.Rule.Slice.PartMut.{mid_of, put_mid}
use Rattle.words.specs.laws.Regions.{mid_long, get_mid, mid_set, mid_set_before, mid_put, put_long, Outside, outside_same, outside_set, outside_part, outside_then, outside_front}
use Rattle.unit.specs.laws.Region.{stack_end}
use Rattle.flow.specs.laws.Stack.{Pushed, push_yes, Standing, marks_of, stack_of, Walked, left, Ran, stand_top, stand_old, stand_free, stand_new, stand_less}

-- The run that began at xs is at place p, which stands on the stack at sp.
pub record Running (n : ℕ) (next : ℕ → List ℕ) (xs w : List ℕ) (sp p : ℕ) : Type 0 where
  pub walked : Walked n next xs w (sp + 1)
  pub top : p ≡ get_or w (n + sp) 0
  pub most : left n (marks_of n w) (sp + 1) ≤ left n (marks_of n xs) (sp + 1)

module _ (n : ℕ) (next : ℕ → List ℕ) where
  pub run_begin : (w : List ℕ) (sp p : ℕ) → Standing n next (marks_of n w) (stack_of n w) (sp + 1) → p ≡ get_or w (n + sp) 0
      → Running n next w w sp p
  run_begin w sp p s top = record {
    walked = record { long = refl; outside = outside_same 0 (stack_end n) w; standing = s };
    top = top;
    most = omega arith;
  }

module _ {n : ℕ} {next : ℕ → List ℕ} (few : (p : ℕ) → length (next p) ≤ 4) {xs w : List ℕ} {sp p : ℕ} (room : stack_end n ≤ length w) (b : Running n next xs w sp p) where
  standing : Standing n next (marks_of n w) (stack_of n w) (sp + 1)
  standing = b.walked.standing

  stack_long : length (stack_of n w) ≡ 4 * n + 4
  stack_long = mid_long w n (4 * n + 4) (omega arith)

  pub run_fits : sp < 4 * n + 4
  run_fits = omega (arith, rw stack_long at standing.fits)

  on_top : get_or (stack_of n w) sp 0 ≡ p
  on_top = get_mid w n (4 * n + 4) sp 0 run_fits ∙ sym b.top

  pub run_place : p < n
  run_place = rw (← on_top) (stand_top n next few (marks_of n w) (stack_of n w) sp standing)

  mark : get_or (marks_of n w) (get_or (stack_of n w) sp 0) 0 ≡ get_or w p 0
  mark = rw on_top (get_mid w 0 n p 0 run_place ∙ rw (zero-add p))

  -- p is marked already
  pub run_old : (get_or w p 0 ≡ 0 → ⊥) → Ran n next xs w sp sp
  run_old d = record {
    walked = record {
      long = b.walked.long;
      outside = b.walked.outside;
      standing = stand_old n next few (marks_of n w) (stack_of n w) sp standing (rw mark d);
    };
    less = omega (arith, b.most);
  }

  -- it is not: it is marked now, and its successors are pushed
  module _ (e : get_or w p 0 ≡ 0) where
    pub run_free : sp + 4 ≤ 4 * n
    run_free = stand_free n next few (marks_of n w) (stack_of n w) sp standing (mark ∙ e)

    marked : marks_of n (set w p 1) ≡ set (marks_of n w) p 1
    marked = rw (zero-add p) at (mid_set w 0 n p 1 run_place)

    marked_stack : stack_of n (set w p 1) ≡ stack_of n w
    marked_stack = mid_set_before w n (4 * n + 4) p 1 run_place

    marked_outside : Outside 0 (stack_end n) xs (set w p 1)
    marked_outside = outside_set 0 (stack_end n) b.walked.outside p 1 (omega arith) (omega (arith, run_place))

    -- nothing but the stack changes with that
    module _ {w' : List ℕ} {r : ℕ} (long : length w' ≡ length w) (only : Outside n (4 * n + 4) (set w p 1) w') (v : Pushed n sp (next p) (stack_of n w) (stack_of n w') r) where
      marks : marks_of n w' ≡ set (marks_of n w) (get_or (stack_of n w) sp 0) 1
      marks = rw on_top (outside_front n (4 * n + 4) only n (omega arith) ∙ marked)

      pushed : Pushed n sp (next (get_or (stack_of n w) sp 0)) (stack_of n w) (stack_of n w') r
      pushed = rw on_top v

      turn_less : left n (marks_of n w') r < left n (marks_of n w) (sp + 1)
      turn_less = rw marks (stand_less n next few (marks_of n w) (stack_of n w) sp standing (mark ∙ e) (stack_of n w') r pushed)

      turn_new : Walked n next xs w' r
      turn_new =
          let both : 0 + stack_end n ≡ n + (4 * n + 4) = omega arith in
          let high : length (stack_of n w') ≡ 4 * n + 4 = mid_long w' n (4 * n + 4) (omega arith) in
          record {
            long = long ∙ b.walked.long;
            outside = outside_then 0 (stack_end n) marked_outside (record { before = refl; after = rw both only.after });
            standing =
                rw marks
                (stand_new n next few (marks_of n w) (stack_of n w) sp standing (mark ∙ e) (stack_of n w') r pushed (high ∙ sym stack_long) (rw stack_long (omega arith)));
          }

    -- the stack was lent; k is its length as the code gives it
    pub run_push : (k : ℕ) → k ≡ 4 * n + 4 → (st : List ℕ) (r : ℕ) → length st ≡ length (mid_of n k (set w p 1)) → Pushed n sp (next p) (mid_of n k (set w p 1)) st r
        → Ran n next xs (put_mid n k (set w p 1) st) sp r
    run_push k same st r l v =
        let u = set w p 1 in
        let fits : n + (4 * n + 4) ≤ length u = omega (arith, length-set w p 1) in
        let st_long : length st ≡ 4 * n + 4 = (rw same at l) ∙ mid_long u n (4 * n + 4) fits in
        let w' = put_mid n (4 * n + 4) u st in
        let long : length w' ≡ length w = put_long u n (4 * n + 4) st st_long fits ∙ length-set w p 1 in
        let only : Outside n (4 * n + 4) u w' = outside_part n (4 * n + 4) (outside_same n (4 * n + 4) u) n (4 * n + 4) 0 st (omega arith) (omega arith) st_long fits in
        let pushed : Pushed n sp (next p) (stack_of n w) (stack_of n w') r = rw (mid_put u n (4 * n + 4) st st_long fits) (rw (same, marked_stack) at v) in
        rw same (record { walked = turn_new long only pushed; less = omega (arith, turn_less long only pushed, b.most) })

    -- the one successor is the next place, which takes p's place on the stack
    module _ (one : next p ≡ (p + 1) ∷ []) (h : p + 1 < n) where
      abbrev after : List ℕ
      after = set (set w p 1) (n + sp) (p + 1)

      after_long : length after ≡ length w
      after_long = length-set (set w p 1) (n + sp) (p + 1) ∙ length-set w p 1

      after_only : Outside n (4 * n + 4) (set w p 1) after
      after_only = outside_set n (4 * n + 4) (outside_same n (4 * n + 4) (set w p 1)) (n + sp) (p + 1) (omega arith) (omega (arith, run_fits))

      after_pushed : Pushed n sp (next p) (stack_of n w) (stack_of n after) (sp + 1)
      after_pushed =
          rw (one, mid_set (set w p 1) n (4 * n + 4) sp (p + 1) run_fits, marked_stack)
          (push_yes n sp (stack_of n w) (p + 1) h (rw stack_long run_fits))

      pub run_less : left n (marks_of n after) (sp + 1) < left n (marks_of n w) (sp + 1)
      run_less = turn_less after_long after_only after_pushed

      pub run_next : Running n next xs after sp (p + 1)
      run_next = record {
        walked = turn_new after_long after_only after_pushed;
        top = sym (get_or-set_same (set w p 1) (n + sp) (p + 1) 0 (omega (arith, run_fits, length-set w p 1)));
        most = omega (arith, run_less, b.most);
      }
