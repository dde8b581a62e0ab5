-- The ports of an end of the reserved edge: beside that edge they have the three partners.
use mathlib.Core.Bool.{true, false, not, ◌&&◌, ◌||◌, or-true, or-false}
use mathlib.Core.List.{List, [], ◌∷◌}
use mathlib.Core.Logic.{◌≢◌, ⊎_elim}
use mathlib.Core.Path.{◌≡◌, refl, sym, ◌∙◌, ap}
use Prim.Native.Nat.{ℕ, ◌+◌, ◌%◌, ◌≤◌, ◌<◌}
use native.Mathlib.Decide.{ℕ_discrete}
use native.Mathlib.Omega.{arith}
use lib.Dec.{eqb}
use Rattle.base.specs.Columns.{at}
use Rattle.base.specs.Fold.{among}
use Rattle.base.proofs.Bools.{never, same_test, and_left, and_right, eqb-self, eqb_no, eqb_is}
use Rattle.base.proofs.Picks.{Rising, pick-ext, pick-rising}
use Rattle.graph.specs.Network.{here, touches}
use Rattle.graph.specs.Sound.{Sound}
use Rattle.graph.specs.Split.{is_partner, partners}
use Rattle.graph.specs.declared.Network.{Network}
use Rattle.graph.proofs.Partners.{another, no_loop, starts-at, touches_at, touches-ends}
use Rattle.graph.proofs.Rules.{end-here}
use Rattle.graph.proofs.Stars.{Runs, forward, backward}
use Rattle.ports.specs.Ports.{ports_each, vertex_of, far_vertex, WiredAs}
use Rattle.ports.specs.Stars.{Trio, Around}
use Rattle.ports.specs.declared.star.Star.{Star}
use Rattle.ports.proofs.Joining.{same-edge}
use Rattle.ports.proofs.Splitting.{port-runs}

-- ── a vertex has no fifth port ──
four-sum : (i j k l : ℕ) → i < 4 → j < 4 → k < 4 → l < 4 → i ≢ j → i ≢ k → i ≢ l → j ≢ k → j ≢ l → k ≢ l
    → i + j + k + l ≡ 6
four-sum i j k l hi hj hk hl ij ik il jk jl kl = omega arith

places-differ : (a b : ℕ) → vertex_of a ≡ vertex_of b → a ≢ b → a % ports_each ≢ b % ports_each
places-differ a b h ne e = omega arith

pub no-fifth : {r a b c : ℕ} → Trio r a b c → (p : ℕ) → vertex_of p ≡ vertex_of r → p ≢ r → p ≢ a → p ≢ b → p ≡ c
no-fifth {r} {a} {b} {c} t p h nr na nb =
    let ra = places-differ r a (sym t.a_at) t.ra in
    let rb = places-differ r b (sym t.b_at) t.rb in
    let ab = places-differ a b (t.a_at ∙ sym t.b_at) t.ab in
    same t.c_at
    (four-sum (r % 4) (a % 4) (b % 4) (p % 4) (omega arith) (omega arith) (omega arith) (omega arith) ra rb
    (places-differ r p (sym h) (λ e. nr (sym e))) ab (places-differ a p (t.a_at ∙ sym h) (λ e. na (sym e)))
    (places-differ b p (t.b_at ∙ sym h) (λ e. nb (sym e))))
    (four-sum (r % 4) (a % 4) (b % 4) (c % 4) (omega arith) (omega arith) (omega arith) (omega arith) ra rb
    (places-differ r c (sym t.c_at) t.rc) ab (places-differ a c (t.a_at ∙ sym t.c_at) t.ac)
    (places-differ b c (t.b_at ∙ sym t.c_at) t.bc))
  where
    same : vertex_of c ≡ vertex_of r → r % 4 + a % 4 + b % 4 + p % 4 ≡ 6 → r % 4 + a % 4 + b % 4 + c % 4 ≡ 6 → p ≡ c
    same hc i j = omega arith

-- ── the edges at the ports of an end of the reserved edge ──
module _ {g : Network} (sound : Sound g) (several : 2 ≤ g.remaining) {mate edge : List ℕ} (w : WiredAs g mate edge)
    (s : Star) (around : Around edge s) (r_edge : at edge s.reserved ≡ g.reserved)
    (r-vertex : vertex_of s.reserved < g.vertices) where
  t : Trio s.reserved s.first s.second s.third
  t = around.trio

  of-vertex : (p : ℕ) → vertex_of p ≡ vertex_of s.reserved → vertex_of p < g.vertices
  of-vertex p h = rw h r-vertex

  -- the edge at a port of v touches v
  touching : (p : ℕ) → vertex_of p ≡ vertex_of s.reserved → touches g (vertex_of s.reserved) (at edge p) ≡ true
  touching p h = touches_at g _ _ (starts-at (rw h at (port-runs g w p (of-vertex p h))))

  pub held : touches g (vertex_of s.reserved) g.reserved ≡ true
  held = rw r_edge at (touching s.reserved refl)

  pub v_here : here g (vertex_of s.reserved) ≡ true
  v_here = end-here sound _ held

  -- no edge runs from v to v, so that different ports have different edges
  no-loop-here : (e : ℕ) → e < g.edges → Runs g e (vertex_of s.reserved) (vertex_of s.reserved) → ⊥
  no-loop-here e l (forward a b) =
      let o = another sound.formed several _ v_here in no_loop sound v_here o.1 o.2 e l a b
  no-loop-here e l (backward a b) =
      let o = another sound.formed several _ v_here in no_loop sound v_here o.1 o.2 e l a b

  edges_differ : (p q : ℕ) → vertex_of p ≡ vertex_of s.reserved → vertex_of q ≡ vertex_of s.reserved → p ≢ q
      → at edge p ≢ at edge q
  edges_differ p q hp hq ne e =
      ⊎_elim ne
      (λ (far : p ≡ at mate q).
      let back : far_vertex mate q ≡ vertex_of s.reserved = sym (ap vertex_of far) ∙ hp in
      no-loop-here (at edge q) (w.taken q (of-vertex q hq)).0 (rw (hq, back) at (port-runs g w q (of-vertex q hq))))
      (same-edge w p q (of-vertex p hp) (of-vertex q hq) e)

  below : (p : ℕ) → vertex_of p ≡ vertex_of s.reserved → at edge p < g.edges
  below p h = (w.taken p (of-vertex p h)).0

  three-rise : Rising 0 (0 + g.edges) (at edge s.first ∷ at edge s.second ∷ at edge s.third ∷ [])
  three-rise =
      let ab = edges_differ s.first s.second t.a_at t.b_at t.ab in
      let bc = edges_differ s.second s.third t.b_at t.c_at t.bc in (
        omega arith,
        omega (arith, below s.first t.a_at),
        (
          omega (arith, around.lower),
          omega (arith, below s.second t.b_at),
          (omega (arith, around.upper), omega (arith, below s.third t.c_at), tt),
        ),
      )

  -- an edge is a partner exactly if it is one of them
  partner-one : (e : ℕ) → e < g.edges → is_partner g (vertex_of s.reserved) e ≡ true
      → among e (at edge s.first ∷ at edge s.second ∷ at edge s.third ∷ []) ≡ true
  unfolding is_partner among
  partner-one e l h =
      let at_v = touches-ends g _ e (and_left (touches g (vertex_of s.reserved) e) _ h) in
      let other : e ≢ g.reserved = λ q. never (rw (q, eqb-self) at (and_right (touches g (vertex_of s.reserved) e) _ h)) in
      ⊎_elim
      (λ q. found (w.port e) (w.low_at e l ∙ q) (w.named e l) other)
      (λ q. found (at mate (w.port e)) (w.high_at e l ∙ q) (w.far_named e l) other)
      at_v
    where
      found : (p : ℕ) → vertex_of p ≡ vertex_of s.reserved → at edge p ≡ e → e ≢ g.reserved
          → (eqb e (at edge s.first) || (eqb e (at edge s.second) || (eqb e (at edge s.third) || false))) ≡ true
      found p h q ne =
          let nr : p ≢ s.reserved = λ x. ne (sym q ∙ ap (at edge) x ∙ r_edge) in
          elim (ℕ_discrete p s.first) [
            | yes x ↦ rw (sym q ∙ ap (at edge) x, eqb-self)
            | no na ↦
                elim (ℕ_discrete p s.second) [
                  | yes x ↦ rw (sym q ∙ ap (at edge) x, eqb-self) (or-true (eqb (at edge s.second) (at edge s.first)))
                  | no nb ↦
                      let x = no-fifth t p h nr na nb in
                      rw (sym q ∙ ap (at edge) x, eqb-self, or-true (eqb (at edge s.third) (at edge s.second)))
                      (or-true (eqb (at edge s.third) (at edge s.first)))
                ]
          ]

  one-partner : (e : ℕ) → among e (at edge s.first ∷ at edge s.second ∷ at edge s.third ∷ []) ≡ true
      → is_partner g (vertex_of s.reserved) e ≡ true
  unfolding is_partner among
  one-partner e h =
      elim (ℕ_discrete e (at edge s.first)) [
        | yes x ↦ is s.first t.a_at t.ra x
        | no na ↦
            elim (ℕ_discrete e (at edge s.second)) [
              | yes x ↦ is s.second t.b_at t.rb x
              | no nb ↦ is s.third t.c_at t.rc (eqb_is (rw (eqb_no na, eqb_no nb, or-false) at h))
            ]
      ]
    where
      is : (p : ℕ) → vertex_of p ≡ vertex_of s.reserved → s.reserved ≢ p → e ≡ at edge p
          → (touches g (vertex_of s.reserved) e && not (eqb e g.reserved)) ≡ true
      is p h ne x =
          let differs : at edge p ≢ g.reserved = λ q.
          edges_differ s.reserved p refl h ne (r_edge ∙ sym q) in
          rw (x, touching p h, eqb_no differs)

  -- the partners at v, in rising order
  pub partners-are : partners g (vertex_of s.reserved)
      ≡ at edge s.first ∷ at edge s.second ∷ at edge s.third ∷ []
  unfolding partners
  partners-are =
      pick-ext g.edges 0 (is_partner g (vertex_of s.reserved)) _
      (λ e _ l. same_test _ _ (partner-one e (omega arith)) (one-partner e))
      ∙ pick-rising g.edges 0 _ three-rise
