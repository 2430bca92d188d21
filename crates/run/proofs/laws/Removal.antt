-- Removal: places that are not kept go, and the kept ones are moved to the number of kept places before them.
use Rattle.std.proofs.Math.Path.{◌≡◌, refl, sym, ap, subst}
use Rattle.std.proofs.Common.{◌∙◌, lt-ltb}
use Rattle.std.specs.Prelude.{None, Some, ◌⊎◌, Bool, true, cond, ◌||◌, List, [], ◌∷◌, ℕ, ◌-◌, ◌≤◌, ◌<◌}
use Rattle.std.proofs.Math.Logic.{inl, inr}
use Rattle.std.proofs.Math.Bool.{false}
use native.Mathlib.Omega.{arith}
use Rattle.run.specs.System.{Same}
use Rattle.run.specs.laws.Simulation.{NotedSim, noted_simulated}
use Rattle.run.specs.laws.Machine.{lt_of_way, way_of_lt, le_of_way, way_last}
use Rattle.run.specs.laws.Invariant.{Holds, held, past, Invariant}
use Rattle.run.specs.Visits.{visit, visiting, begin}
use Rattle.run.specs.Machine.{Words, Event, Way, World, Reply, words, finish, Act, silent, ask, stop, fail, Program, State, at, over, put, goto, replied, answered, perform, step, way_of, log_of, system}

-- the words of two runs agree on a set of slots
abbrev pub Agree : (ℕ → Type 0) → Words → Words → Type 0
Agree L σ σ' = (s : ℕ) → L s → σ' s ≡ σ s

-- two acts are the same, where g tells the slots that are given a word
pub data SameAct (g : ℕ → Bool) : Act → Act → Type 0 where
  silent= : {w w' : Words} {j : Bool} → ((s : ℕ) → g s ≡ true → w' s ≡ w s) → SameAct g (silent w j) (silent w' j)
  ask= : {e : Event} → SameAct g (ask e) (ask e)
  stop= : {e : Event} {w : Way} → SameAct g (stop e w) (stop e w)
  fail= : SameAct g fail fail

-- an act may go on by this way: true, to the target; false, to the next place
pub data Goes : Act → Bool → Type 0 where
  silently : {w : Words} {j : Bool} → Goes (silent w j) j
  asked : {e : Event} {j : Bool} → Goes (ask e) j

module _ (live : ℕ → ℕ → Type 0) (bnd : ℕ → ℕ) where
  -- a place p that is kept, where the run has the words σ
  pub record Kept (P P' : Program) (p : ℕ) (σ : Words) : Type 0 where
    pub inside : bnd p < P'.size
    pub acts : (σ' : Words) → Agree (live p) σ σ' → SameAct (P.node p).gives ((P.node p).act σ) ((P'.node (bnd p)).act σ')
    pub gives= : (s : ℕ) → (P'.node (bnd p)).gives s ≡ (P.node p).gives s
    pub perhaps= : (P'.node (bnd p)).perhaps ≡ (P.node p).perhaps
    pub goto= : (j : Bool) → goto (P'.node (bnd p)) (bnd p) j ≡ bnd (goto (P.node p) p j)
    pub live+ : (j : Bool) → Goes ((P.node p).act σ) j → (s : ℕ) → live (goto (P.node p) p j) s → (P.node p).gives s ≡ false → live p s

  -- a place p that is removed: a silent step forward, over nothing that is kept, that gives no live slot a word
  pub record Gone (P : Program) (p : ℕ) (σ : Words) : Type 0 where
    pub jumps : Bool
    pub still : (w : Words) × ((P.node p).act σ ≡ silent w jumps)
    pub onward : p < goto (P.node p) p jumps
    pub stays : bnd (goto (P.node p) p jumps) ≡ bnd p
    pub live+ : (s : ℕ) → live (goto (P.node p) p jumps) s → live p s
    pub unread : (s : ℕ) → live (goto (P.node p) p jumps) s → (P.node p).gives s ≡ false

  -- What must hold at each place, wherever an invariant does. f is noted of the places of P, and f' of those of P'.
  pub record Removal (I : ℕ → Words → Type 0) (W : World) (P P' : Program) (f f' : ℕ → List ℕ) : Type 0 where
    pub invariant : Invariant W P I
    pub within : (p : ℕ) (σ : Words) → I p σ → p ≤ P.size
    pub first : bnd 0 ≡ 0
    pub last : bnd P.size ≡ P'.size
    pub place : (p : ℕ) (σ : Words) → p < P.size → I p σ → ((f' (bnd p) ≡ f p) × Kept P P' p σ) ⊎ ((f p ≡ []) × Gone P p σ)

  data Rel : State → State → Type 0 where
    on : {p : ℕ} {σ σ' : Words} {R : List Event} → Agree (live p) σ σ' → Rel (at p σ R) (at (bnd p) σ' R)
    off : {w : Way} {R : List Event} → Rel (over w R) (over w R)

-- words given alike, over slots that agree
put_agree : (g g' : ℕ → Bool) (w w' σ σ' : Words) (L M : ℕ → Type 0) → ((s : ℕ) → g' s ≡ g s) → ((s : ℕ) → g s ≡ true → w' s ≡ w s)
    → ((s : ℕ) → M s → g s ≡ false → L s) → Agree L σ σ' → Agree M (put g w σ) (put g' w' σ')
unfolding put
put_agree g g' w w' σ σ' L M g= w= l+ ag s m = go (g s) (g= s) refl
  where
    go : (t : Bool) → g' s ≡ t → g s ≡ t → cond (g' s) (w' s) (σ' s) ≡ cond (g s) (w s) (σ s)
    go true p q = rw (p, q) (w= s q)
    go false p q = rw (p, q) (ag s (l+ s m q))

-- words given to slots that nobody reads
put_unread : (g : ℕ → Bool) (w σ σ' : Words) (L M : ℕ → Type 0) → ((s : ℕ) → M s → L s) → ((s : ℕ) → M s → g s ≡ false)
    → Agree L σ σ' → Agree M (put g w σ) σ'
unfolding put
put_unread g w σ σ' L M l+ dead ag s m = rw (dead s m) (ag s (l+ s m))

left_false : (a b : Bool) → (a || b) ≡ false → a ≡ false
left_false true b e = e
left_false false b e = refl

module _ (I : ℕ → Words → Type 0) (live : ℕ → ℕ → Type 0) (bnd : ℕ → ℕ) (W : World) (P P' : Program) (f f' : ℕ → List ℕ) (G : Removal live bnd I W P P' f f') where
  kept_answer : (p : ℕ) (σ : Words) → Kept live bnd P P' p σ → (σ' : Words) (R : List Event) → Agree (live p) σ σ' → (e : Event)
      → (P.node p).act σ ≡ ask e → (r : Reply) → Rel live bnd (answered (P.node p) p σ R r) (answered (P'.node (bnd p)) (bnd p) σ' R r)
  unfolding answered replied
  kept_answer p σ K σ' R ag e q (words w stored j) =
      let g : Goes ((P.node p).act σ) j = rw q asked in
      let r= : (s : ℕ) → replied (P'.node (bnd p)) stored s ≡ replied (P.node p) stored s = λ s. rw (K.gives= s, K.perhaps=) in
      -- what the reply gives no word is not surely given one
      let l+ : (s : ℕ) → live (goto (P.node p) p j) s → replied (P.node p) stored s ≡ false → live p s = λ s m n. K.live+ j g s m (left_false ((P.node p).gives s) _ n) in
      rw (K.goto= j) (on (put_agree _ _ w w σ σ' (live p) _ r= (λ s t. refl) l+ ag))
  kept_answer p σ K σ' R ag e q finish = off

  kept_move : (p : ℕ) (σ : Words) → Kept live bnd P P' p σ → (σ' : Words) (R : List Event) → Agree (live p) σ σ'
      → (A A' : Act) → (P.node p).act σ ≡ A → SameAct (P.node p).gives A A'
      → Rel live bnd (perform W (P.node p) p σ R A) (perform W (P'.node (bnd p)) (bnd p) σ' R A')
  unfolding perform
  kept_move p σ K σ' R ag A A' q (silent= {w = w} {w' = w'} {j = j} w=) =
      let g : Goes ((P.node p).act σ) j = rw q silently in
      rw (K.goto= j) (on (put_agree _ _ w w' σ σ' (live p) _ K.gives= w= (K.live+ j g) ag))
  kept_move p σ K σ' R ag A A' q (ask= {e = e}) = kept_answer p σ K σ' (e ∷ R) ag e q (W.reply (e ∷ R))
  kept_move p σ K σ' R ag A A' q stop= = off
  kept_move p σ K σ' R ag A A' q fail= = off

  gone_move : (p : ℕ) (σ : Words) (N : Gone live bnd P p σ) (σ' : Words) (R : List Event) → Agree (live p) σ σ' → (w : Words) → (P.node p).act σ ≡ silent w N.jumps
      → Rel live bnd (perform W (P.node p) p σ R ((P.node p).act σ)) (at (bnd p) σ' R)
  unfolding perform
  gone_move p σ N σ' R ag w q =
      rw (q, ← N.stays) (on (put_unread _ w σ σ' (live p) _ N.live+ N.unread ag))

  left : State → ℕ
  left (at p σ R) = P.size - p
  left (over w R) = 0

  step_in : (Q : Program) (p : ℕ) (σ : Words) (R : List Event) → p < Q.size → step W Q (at p σ R) ≡ perform W (Q.node p) p σ R ((Q.node p).act σ)
  unfolding step
  step_in Q p σ R h = rw (lt-ltb p Q.size h)

  inside_held : {p : ℕ} {σ : Words} {R : List Event} (x : State) → x ≡ at p σ R → Holds I x → p ≤ P.size
  inside_held {p} {σ} x e (held {p = q} {σ = τ} i) = let l = G.within q τ i in let s : q ≡ p = cc in omega arith
  inside_held x e past = let z : ◌≡◌ {A = ℕ} 0 1 = cc in absurd (omega arith)

  gone_less : (p : ℕ) (σ : Words) (N : Gone live bnd P p σ) (R : List Event) → (w : Words) → (P.node p).act σ ≡ silent w N.jumps
      → Holds I (perform W (P.node p) p σ R ((P.node p).act σ)) → p < P.size → left (perform W (P.node p) p σ R ((P.node p).act σ)) < left (at p σ R)
  unfolding perform left
  gone_less p σ N R w q i h =
      let k = inside_held _ refl (rw q at i) in
      rw q (let o = N.onward in omega arith)

  abbrev Related : State → State → Type 0
  Related x y = Holds I x × Rel live bnd x y

  abbrev Moves : State → State → Type 0
  Moves x y =
      ((way_of P' y ≡ None) × (visit f' y ≡ visit f x) × Related (step W P x) (step W P' y))
      ⊎ ((visit f x ≡ []) × Related (step W P x) y × (left (step W P x) < left x))

  move_at : (p : ℕ) (σ σ' : Words) (R : List Event) → p < P.size → Holds I (step W P (at p σ R)) → Agree (live p) σ σ'
      → ((f' (bnd p) ≡ f p) × Kept live bnd P P' p σ) ⊎ ((f p ≡ []) × Gone live bnd P p σ) → Moves (at p σ R) (at (bnd p) σ' R)
  unfolding visit
  move_at p σ σ' R h i ag (inl (n, K)) =
      inl (
        way_of_lt P' (bnd p) σ' R K.inside,
        n,
        (i, rw (step_in P p σ R h, step_in P' (bnd p) σ' R K.inside) (kept_move p σ K σ' R ag _ _ refl (K.acts σ' ag))),
      )
  move_at p σ σ' R h i ag (inr (n, N)) =
      let w = N.still in
      inr (
        n,
        (i, rw (step_in P p σ R h) (gone_move p σ N σ' R ag w.0 w.1)),
        rw (step_in P p σ R h) (gone_less p σ N R w.0 w.1 (rw (step_in P p σ R h) at i) h),
      )

  rel_move : (x y : State) → Related x y → way_of P x ≡ None → Moves x y
  unfolding way_of
  rel_move x y (held {p = p} {σ = σ} {R = R} i, on {σ' = σ'} ag) e =
      let h = lt_of_way P p σ R e in move_at p σ σ' R h (G.invariant.keeps p σ R h i) ag (G.place p σ h i)
  rel_move x y (past, off) e = let z : ◌≡◌ {A = ℕ} 0 1 = cc in absurd (omega arith)

  rel_log : (x y : State) → Related x y → log_of y ≡ log_of x
  unfolding log_of
  rel_log x y (h, on ag) = refl
  rel_log x y (h, off) = refl

  rel_end : (x y : State) (w : Way) → Related x y → way_of P x ≡ Some w → way_of P' y ≡ Some w
  unfolding way_of
  rel_end x y w (held {p = p} {σ = σ} {R = R} i, on {σ' = σ'} ag) e =
      let le = le_of_way P p σ R w e in
      let ge = G.within p σ i in
      let p= : p ≡ P.size = omega arith in
      let b= : bnd p ≡ P'.size = ap bnd p= ∙ G.last in
      way_last P' (bnd p) σ' R b= ∙ sym (way_last P p σ R p=) ∙ e
  rel_end x y w (past, off) e = e

  removal_sim : NotedSim (system W P) (system W P') (visit f) (visit f')
  removal_sim = record { rel = Related; size = left; log= = rel_log; end= = rel_end; move = rel_move }

  pub removal : (σ : Words) → Same (visiting W P f) (begin σ) (visiting W P' f') (begin σ)
  unfolding removal_sim
  removal σ = noted_simulated removal_sim (at 0 σ []) (at 0 σ []) (held (G.invariant.first σ), subst (λ (q : ℕ). Rel live bnd (at 0 σ []) (at q σ [])) G.first (on (λ s l. refl)))
