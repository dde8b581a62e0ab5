-- Laws of lists in which four places are stored to, two by two.
use mathlib.Core.List.{List}
use mathlib.Core.Logic.{◌≢◌}
use mathlib.Core.Path.{◌≡◌, sym, ◌∙◌}
use Prim.Native.Nat.{ℕ, ◌<◌}
use lib.ListN.{length, set, length-set}
use lib.Seq.{get_or-set_same, get_or-set_other}
use Rattle.base.specs.Columns.{at}

-- a list with i at a and j at b
abbrev pub twice : List ℕ → ℕ → ℕ → ℕ → ℕ → List ℕ
twice l a i b j = set (set l a i) b j

pub length-twice : (l : List ℕ) (a i b j : ℕ) → length (twice l a i b j) ≡ length l
length-twice l a i b j = length-set (set l a i) b j ∙ length-set l a i

module _ (l : List ℕ) (a i b j : ℕ) where
  pub twice-other : (p : ℕ) → p ≢ a → p ≢ b → at (twice l a i b j) p ≡ at l p
  twice-other p na nb = get_or-set_other (set l a i) b p j 0 nb ∙ get_or-set_other l a p i 0 na

  pub twice-second : b < length l → at (twice l a i b j) b ≡ j
  twice-second h = get_or-set_same (set l a i) b j 0 (rw length-set h)

  pub twice-first : a ≢ b → a < length l → at (twice l a i b j) a ≡ i
  twice-first ne h = get_or-set_other (set l a i) b a j 0 ne ∙ get_or-set_same l a i 0 h

-- four different places of a list
pub record Corners (l : List ℕ) (a b c d : ℕ) : Type 0 where
  pub a< : a < length l
  pub b< : b < length l
  pub c< : c < length l
  pub d< : d < length l
  pub ab : a ≢ b
  pub ac : a ≢ c
  pub ad : a ≢ d
  pub bc : b ≢ c
  pub bd : b ≢ d
  pub cd : c ≢ d

-- .. stored to: c and d, then a and b
module _ {l : List ℕ} {a b c d : ℕ} (q : Corners l a b c d) (i j k m : ℕ) where
  abbrev pub cornered : List ℕ
  cornered = twice (twice l c i d j) a k b m

  inner : (p : ℕ) → p < length l → p < length (twice l c i d j)
  inner p h = rw (length-twice l c i d j) h

  pub cornered-a : at cornered a ≡ k
  cornered-a = twice-first (twice l c i d j) a k b m q.ab (inner a q.a<)

  pub cornered-b : at cornered b ≡ m
  cornered-b = twice-second (twice l c i d j) a k b m (inner b q.b<)

  pub cornered-c : at cornered c ≡ i
  cornered-c =
      twice-other (twice l c i d j) a k b m c (λ e. q.ac (sym e)) (λ e. q.bc (sym e))
      ∙ twice-first l c i d j q.cd q.c<

  pub cornered-d : at cornered d ≡ j
  cornered-d =
      twice-other (twice l c i d j) a k b m d (λ e. q.ad (sym e)) (λ e. q.bd (sym e))
      ∙ twice-second l c i d j q.d<

  pub cornered-other : (p : ℕ) → p ≢ a → p ≢ b → p ≢ c → p ≢ d → at cornered p ≡ at l p
  cornered-other p na nb nc nd = twice-other (twice l c i d j) a k b m p na nb ∙ twice-other l c i d j p nc nd
