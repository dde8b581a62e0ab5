-- A network and a list that are read from their texts, step by step, and what is known of them.
use mathlib.Core.Path.{◌≡◌, refl, sym, ◌∙◌, ap}
use mathlib.Core.Bool.{Bool}
use mathlib.Core.List.{List}
use Prim.Native.Nat.{ℕ, ◌*◌, ◌≤◌, ◌<◌}
use native.Mathlib.Omega.{arith}
use lib.ListN.{length, take, drop, get_or, length-take}
use lib.Seq.{take-append_seam, get_or-take}
use Rattle.base.proofs.Bools.{no_answer}
use Rattle.base.specs.Answer.{Answer, refused, answer, and_then, over, replied, reply_of, after}
use Rattle.base.proofs.Answers.{refuses, fits, replied-refused, replied-done}
use Rattle.base.specs.Refusals.{UNLISTED}
use Rattle.base.specs.Limits.{edge_limit, vertex_limit}
use Rattle.list_text.specs.Text.{read_list}
use Rattle.list_text.proofs.Listed.{list-few, list-below-at, read-numbered}
use Rattle.base.proofs.Numbered.{Numbered, answered, then-meeting, numbered-up}
use Rattle.graph.specs.declared.Network.{Network}
use Rattle.loading.specs.Known.{Known}
use Rattle.loading.specs.Loading.{load_network}
use Rattle.loading.specs.ListLoading.{listed_marks, load_list, loaded_list_of, Markable}
use Rattle.graph.specs.State.{no_marks}
use Rattle.loading.specs.declared.list.LoadedList.{LoadedList}
use Rattle.loading.proofs.Reading.{load-numbered, loaded-known}

-- ── a list that is read into a buffer with room for every list ──

-- the answer is the first so many of the buffer's elements, and they are the network's edges
pub record Listed (n : ℕ) (l edges : List ℕ) (count : ℕ) : Type 0 where
  pub is : read_list n l ≡ answer (take count edges)
  pub within : count ≤ length edges
  pub below : (i : ℕ) → i < count → get_or edges i 0 < 2 * n

module _ (n : ℕ) (l old : List ℕ) (room : length old ≡ edge_limit) where
  -- never 13
  reply-is : reply_of (read_list n l) old ≡ replied (read_list n l)
  reply-is = go (read_list n l) refl
    where
      go : (a : Answer (List ℕ)) → read_list n l ≡ a → reply_of a old ≡ replied a
      go (refused k) q = unfold replied in sym (refuses (refused k) old k refl).0
      go (answer es) q = unfold replied in sym (fits (answer es) old es refl (omega (arith, list-few n l es q))).0

  pub list-refused : {k : ℕ} → refused k ≡ reply_of (read_list n l) old → read_list n l ≡ refused k
  list-refused {k} p = replied-refused (read_list n l) k (p ∙ reply-is)

  module _ (es edges : List ℕ) (count : ℕ)
      (d : read_list n l ≡ answer es) (c : count ≡ length es) (o : edges ≡ over es old) where
    -- the answer stands at the start of the buffer
    front : take count edges ≡ es
    unfolding over
    front = rw (c, o) (take-append_seam es (drop (length es) old))

    held : Listed n l edges count
    held = record {
      is = d ∙ ap answer (sym front);
      within = omega (arith, length-take count edges, ap length front);
      below = λ i h.
          let x = sym (get_or-take count edges i 0 h) ∙ ap (λ xs. get_or xs i 0) front in
          omega (arith, list-below-at n l es d i (omega arith));
    }

  pub list_read : {edges : List ℕ} {count : ℕ} → answer count ≡ reply_of (read_list n l) old
      → edges ≡ after (read_list n l) old → Listed n l edges count
  list_read {edges} {count} p q =
      let d = replied-done (read_list n l) count (p ∙ reply-is) in
      let few : length d.0 ≤ length old = omega (arith, list-few n l d.0 d.1) in
      held d.0 edges count d.1 d.2 (q ∙ sym (fits (read_list n l) old d.0 d.1 few).1)

pub listed-markable : {n : ℕ} {l edges : List ℕ} {count : ℕ} → Listed n l edges count → n ≤ vertex_limit
    → {marks : List Bool} → marks ≡ no_marks → Markable edges count marks
listed-markable w h e = record { within = w.within; below = λ i l. omega (arith, w.below i l); unmarked = e }

-- ── network and list ──

module _ (t l : List ℕ) where
  pub network-refused : (k : ℕ) → load_network t ≡ refused k → load_list t l ≡ refused k
  unfolding load_list and_then
  network-refused k e = rw e

  module _ (g : Network) (e : load_network t ≡ answer g) where
    pub network-room : g.vertices ≤ vertex_limit
    network-room = (loaded-known t g e).vertex_room

    pub listing-refused : (k : ℕ) → read_list g.vertices l ≡ refused k → load_list t l ≡ refused k
    unfolding load_list and_then
    listing-refused k h = rw (e, h)

    pub list-loaded : (es : List ℕ) {K : List Bool} → read_list g.vertices l ≡ answer es → K ≡ listed_marks es
        → load_list t l ≡ answer (g, K)
    unfolding load_list and_then
    list-loaded es h m = rw (e, h, m)

  -- the network and the edges that were read
  pub record Found (g : Network) (K : List Bool) : Type 0 where
    pub network : load_network t ≡ answer g
    pub edges : List ℕ
    pub list : read_list g.vertices l ≡ answer edges
    pub marks : K ≡ listed_marks edges

  pub list-found : (g : Network) (K : List Bool) → load_list t l ≡ answer (g, K) → Found g K
  unfolding load_list and_then
  list-found g K e = go (load_network t) refl e
    where
      marked : Network → Answer (List ℕ) → Answer (Network × List Bool)
      marked h a = and_then a (λ es. answer (h, listed_marks es))

      read : (h : Network) → load_network t ≡ answer h → (a : Answer (List ℕ)) → read_list h.vertices l ≡ a
          → marked h a ≡ answer (g, K) → Found g K
      read h q (refused k) r e = no_answer (cc)
      read h q (answer es) r e =
          let both : ◌≡◌ {A = Network × List Bool} (h, listed_marks es) (g, K) = cc in
          let same = ap (λ x. x.0) both in
          record {
            network = q ∙ ap answer same;
            edges = es;
            list = ap (λ (x : Network). read_list x.vertices l) (sym same) ∙ r;
            marks = sym (ap (λ x. x.1) both);
          }

      go : (a : Answer Network) → load_network t ≡ a
          → and_then a (λ h. marked h (read_list h.vertices l)) ≡ answer (g, K) → Found g K
      go (refused k) q e = no_answer (cc)
      go (answer h) q e = read h q (read_list h.vertices l) refl e

  -- what is known of the network
  pub list-known : (g : Network) (K : List Bool) → load_list t l ≡ answer (g, K) → Known g
  list-known g K e = loaded-known t g (list-found g K e).network

-- ── what was loaded ──

pub list-numbered : (t l : List ℕ) → Numbered UNLISTED (load_list t l)
unfolding load_list
list-numbered t l =
    then-meeting (load_network t) _ (numbered-up (omega arith) (load-numbered t))
    (λ g. then-meeting (read_list g.vertices l) _ (read-numbered g.vertices l) (λ es. answered _))

-- what a reply says of the answer, as a caller finds it
module _ (a : Answer (Network × List Bool)) where
  pub list-answered : {l : LoadedList} → answer l ≡ loaded_list_of a → a ≡ answer (l.network, l.listed)
  unfolding loaded_list_of
  list-answered {l} e = go a refl e
    where
      go : (b : Answer (Network × List Bool)) → a ≡ b → answer l ≡ loaded_list_of b → a ≡ answer (l.network, l.listed)
      go (refused k) q x = no_answer (cc)
      go (answer p) q x =
          let same : l ≡ record { network = p.0; listed = p.1 } = cc in rw (q, same)

  pub list-refusal : {k : ℕ} → refused k ≡ loaded_list_of a → a ≡ refused k
  unfolding loaded_list_of
  list-refusal {k} e = go a refl e
    where
      go : (b : Answer (Network × List Bool)) → a ≡ b → refused k ≡ loaded_list_of b → a ≡ refused k
      go (refused j) q x = cc
      go (answer p) q x = no_answer (cc)
