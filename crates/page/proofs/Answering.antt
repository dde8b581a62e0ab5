-- What the page answers, from the marks of the edges that were loaded.
use mathlib.Core.Path.{◌≡◌, refl, sym, ◌∙◌, ap}
use mathlib.Core.Bool.{Bool, false}
use mathlib.Core.List.{List}
use Prim.Native.Nat.{ℕ, ◌+◌, ◌*◌, ◌≤◌}
use native.Mathlib.Omega.{arith}
use lib.ListN.{length}
use Rattle.base.specs.Answer.{Answer, refused, answer, and_then}
use Rattle.base.specs.Fold.{among, tabulate}
use Rattle.base.specs.Limits.{edge_limit}
use Rattle.base.proofs.Picks.{Rising, pick-ext, pick-rising}
use Rattle.base.proofs.Sums.{tabulate-length, tabulate-at}
use Rattle.graph.specs.declared.Network.{Network}
use Rattle.kept_text.specs.Text.{is_kept, kept_edges}
use Rattle.list_text.specs.Text.{read_list}
use Rattle.list_text.proofs.Listed.{list-rising}
use Rattle.loading.specs.Known.{Known}
use Rattle.loading.specs.ListLoading.{listed_marks, load_list, loaded_list_of}
use Rattle.loading.specs.Loading.{state_of, network_of, load_network}
use Rattle.loading.specs.declared.list.LoadedList.{LoadedList}
use Rattle.loading.proofs.ListReading.{list-found, list-known, list-answered, list-refusal}
use Rattle.loading.proofs.Reading.{loaded-read, loaded-known}
use Rattle.page.specs.Page.{page_of, page_length, page_text}
use Rattle.page.proofs.Pages.{kept-below, kept-few, length-page}

-- listed edges, which rise, are found again in their marks
pub listed-edges : (n : ℕ) (es : List ℕ) → Rising 0 n es → n ≤ edge_limit → kept_edges n (listed_marks es) ≡ es
unfolding kept_edges listed_marks
listed-edges n es r room =
    let f : ℕ → Bool = λ e. among e es in
    let start : n ≡ 0 + n = omega arith in
    pick-ext n 0 (is_kept (tabulate edge_limit f)) f (λ i a b. tabulate-at edge_limit f false i (omega arith))
    ∙ pick-rising n 0 es (rw start at r)

-- a network that is read has twice as many edges as vertices
pub loaded-edges : (t : List ℕ) (g : Network) → load_network t ≡ answer g → g.edges ≡ 2 * g.vertices
loaded-edges t g e = let w = loaded-read t g e in rw (← w.2) (unfold network_of state_of in refl)

-- the page of the marked edges
abbrev pub printed : Network × List Bool → Answer (List ℕ)
printed w = answer (page_of w.0 (kept_edges w.0.edges w.1))

pub page-loaded : (t l : List ℕ) → page_text t l ≡ and_then (load_list t l) printed
unfolding page_text load_list and_then
page-loaded t l = go (load_network t) refl
  where
    one : (g : Network) → load_network t ≡ answer g → (a : Answer (List ℕ)) → read_list g.vertices l ≡ a
        → and_then a (λ es. answer (page_of g es)) ≡ and_then (and_then a (λ es. answer (g, listed_marks es))) printed
    one g q (refused k) r = refl
    one g q (answer es) r =
        let n = loaded-edges t g q in
        let rises : Rising 0 g.edges es = rw n (list-rising g.vertices l es r) in
        ap (λ xs. answer (page_of g xs)) (sym (listed-edges g.edges es rises (loaded-known t g q).edge_room))

    go : (a : Answer Network) → load_network t ≡ a
        → and_then a (λ g. and_then (read_list g.vertices l) (λ es. answer (page_of g es)))
        ≡ and_then (and_then a (λ g. and_then (read_list g.vertices l) (λ es. answer (g, listed_marks es)))) printed
    go (refused k) q = refl
    go (answer g) q = one g q (read_list g.vertices l) refl

module _ (t l : List ℕ) where
  pub page-refused : (k : ℕ) → load_list t l ≡ refused k → page_text t l ≡ refused k
  unfolding and_then
  page-refused k e = page-loaded t l ∙ rw e

  pub page-answered : (g : Network) (K : List Bool) → load_list t l ≡ answer (g, K)
      → page_text t l ≡ answer (page_of g (kept_edges g.edges K))
  unfolding and_then
  page-answered g K e = page-loaded t l ∙ rw e

-- ── a list that was loaded ──

-- its network is known, there is a mark for each edge that a network has room for, and its page is that of the marked
-- edges
pub record Loads (t l : List ℕ) (x : LoadedList) : Type 0 where
  pub known : Known x.network
  pub marks : length x.listed ≡ edge_limit
  pub page : page_text t l ≡ answer (page_of x.network (kept_edges x.network.edges x.listed))
  pub long : length (page_of x.network (kept_edges x.network.edges x.listed))
      ≡ page_length (length (kept_edges x.network.edges x.listed))

pub loads : (t l : List ℕ) {x : LoadedList} → answer x ≡ loaded_list_of (load_list t l) → Loads t l x
loads t l {x} e =
    let K = x.listed in
    let is = list-answered (load_list t l) e in
    let found = list-found t l x.network K is in
    let known = list-known t l x.network K is in
    record {
      known = known;
      marks = ap length found.marks ∙ unfold listed_marks in tabulate-length edge_limit (λ i. among i found.edges);
      page = page-answered t l x.network K is;
      long = length-page known _ (kept-below x.network K) (kept-few known K);
    }

-- a network or a list that was refused
pub loading-refused : (t l : List ℕ) {k : ℕ} → refused k ≡ loaded_list_of (load_list t l) → page_text t l ≡ refused k
loading-refused t l {k} e = page-refused t l k (list-refusal (load_list t l) e)
