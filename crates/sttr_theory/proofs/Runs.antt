-- How a second transducer runs over a term, as a proposition.
use Rattle.std.specs.Prelude.{⊤}
use Rattle.std.proofs.Common.{ℕ, zero, suc, ◌≡◌, ◌⊎◌, ◌<◌, List, [], ◌∷◌, ◌++◌, Contains}
use Rattle.model_tree.specs.Tree.{Tree}
use Rattle.model_sta.specs.Automaton.{Rule, rules_of}
use Rattle.model_sta.specs.Operations.{HasAll}
use Rattle.model_sttr.specs.Terms.{Term, on, build, Parts, no_parts, part, Uses, IsInstance}
use Rattle.model_sttr.specs.Transducer.{Head, identity, run, OutRule, Sttr, out_rules, Gives, AllLinear}
use Rattle.sttr_theory.specs.Lists.{once}
use Rattle.sttr_theory.specs.Built.{kept}
use Rattle.sttr_theory.specs.Ways.{size}
use Rattle.sttr_theory.proofs.Accept.{Fires, wants}

-- what the second must do with the middle tree: nothing, or give w
pub data Aim (L : Type 0) : Type 0 where
  free : Aim L
  gives : Head → Tree L → Aim L

module _ {L : Type 0} (T : Sttr L) where
  abbrev pub Meets : Aim L → Tree L → Type 0
  Meets free u = ⊤
  Meets (gives h w) u = Gives T h u w

  -- the middle tree u is accepted by all of Z, and the second does with it what it must
  abbrev pub Fit : List ℕ → Aim L → Tree L → Type 0
  Fit Z a u = HasAll T.looks Z u × Meets a u

  -- what a child can give, by a middle tree
  abbrev pub Kid : (Head → ℕ → Tree L → Type 0) → Head → List ℕ → Aim L → ℕ → Type 0
  Kid K h Z free j = (u : Tree L) × K h j u × HasAll T.looks Z u
  Kid K h Z (gives k w) j = (u : Tree L) × K h j u × HasAll T.looks Z u × Gives T k u w

  pub kid_in : (K : Head → ℕ → Tree L → Type 0) (h : Head) (Z : List ℕ) (a : Aim L) (j : ℕ) (u : Tree L) → K h j u → Fit Z a u → Kid K h Z a j
  kid_in K h Z free j u i fit = (u, i, fit.0)
  kid_in K h Z (gives k w) j u i fit = (u, i, fit.0, fit.1)

  pub kid_out : (K : Head → ℕ → Tree L → Type 0) (h : Head) (Z : List ℕ) (a : Aim L) (j : ℕ) → Kid K h Z a j → (u : Tree L) × K h j u × Fit Z a u
  kid_out K h Z free j kid = (kid.0, kid.1, (kid.2, tt))
  kid_out K h Z (gives k w) j kid = (kid.0, kid.1, (kid.2, kid.3))

module _ {L : Type 0} where
  -- one rule for each state of Z, all of which fire at c and l
  abbrev pub Picks : List (List (Rule L)) → ℕ → L → List ℕ → List (Rule L) → Type 0
  Picks A c l [] [] = ⊤
  Picks A c l [] (r ∷ rs) = ⊥
  Picks A c l (s ∷ Z) [] = ⊥
  Picks A c l (s ∷ Z) (r ∷ rs) = Contains (rules_of A s) r × Fires r c l × Picks A c l Z rs

  -- what they demand together
  abbrev pub merged : List (Rule L) → ℕ → List ℕ
  merged [] j = []
  merged (r ∷ rs) j = wants r j ++ merged rs j

  -- a node whose children are kept
  abbrev pub copy : ℕ → ℕ → Term Head (L → L)
  copy c n = build c (λ l. l) (kept 0 n)

module _ {L : Type 0} (T : Sttr L) where
  -- the second at a middle node with constructor c, label l and n children, of which E is demanded,
  -- where `O j Z a` says that child j can be had as a tree that fits Z and a
  abbrev pub Step : ℕ → L → (ℕ → List ℕ → Aim L → Type 0) → ℕ → (ℕ → List ℕ) → Aim L → Type 0
  Step c l O n E free = (j : ℕ) → j < n → O j (E j) free
  Step c l O n E (gives identity w) = IsInstance (λ h j v. O j (E j) (gives h v)) l (copy c n) w
  Step c l O n E (gives (run q) w) =
      (r : OutRule L) × Contains (out_rules T q) r × Fires r.rule c l
      × ((j : ℕ) → j < n → Uses j r.term ⊎ O j (E j ++ wants r.rule j) free)
      × IsInstance (λ h j v. O j (E j ++ wants r.rule j) (gives h v)) l r.term w

module _ {L : Type 0} (T : Sttr L) (D : Head → List ℕ → Aim L → ℕ → Type 0) (l : L) where
  abbrev mutual
    -- some way in which Z and the aim run over the term at input label l,
    -- where `D h Z a j` says that the first's head h, on child j of the input, can give a tree that fits Z and a
    pub Run : Term Head (L → L) → List ℕ → Aim L → Type 0
    Run (on h j) Z a = D h Z a j
    Run (build c m ps) Z a = (rs : List (Rule L)) × Picks T.looks c (m l) (once Z) rs × Step T c (m l) (λ j Z' a'. RunAt j ps Z' a') (size ps) (merged rs) a

    pub RunAt : ℕ → Parts Head (L → L) → List ℕ → Aim L → Type 0
    RunAt j no_parts Z a = ⊥
    RunAt zero (part p ps) Z a = Run p Z a
    RunAt (suc j) (part p ps) Z a = RunAt j ps Z a

module _ {L : Type 0} where
  -- no head gives two trees on one child
  abbrev pub OneEach : (Head → ℕ → Tree L → Type 0) → Type 0
  OneEach K = (h : Head) (j : ℕ) (u v : Tree L) → K h j u → K h j v → u ≡ v

  -- what the converse needs, at an aim
  abbrev pub Premise : (Head → ℕ → Tree L → Type 0) → Sttr L → Aim L → Type 0
  Premise K T free = ⊤
  Premise K T (gives identity w) = ⊤
  Premise K T (gives (run q) w) = OneEach K ⊎ AllLinear T
