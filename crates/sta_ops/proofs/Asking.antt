-- What nodes of classes ask for.
use Rattle.std.proofs.Common.{ℕ, zero, suc, ◌≡◌, ◌<◌, List, [], ◌∷◌, map, get_or, length, All, Contains, sym, subst}
use Rattle.std.proofs.lemmas.List.{length-map}
use Rattle.model_sta.specs.Sets.{Row}
use Rattle.model_sta.specs.Least.{Found, rows_of}
use Rattle.sta_core.specs.Machine.{plain_rule}
use Rattle.sta_core.specs.declared.StaRule.{StaRule}
use Rattle.sta_theory.proofs.Lists.{none_in, first_in, later_in, map_member, in_map}
use Rattle.sta_ops.specs.declared.begun.Begun.{Begun}
use Rattle.sta_ops.specs.Opposites.{plain_begun, AnyAsks, AreOfClasses}
use Rattle.sta_ops.proofs.EachRule.{all_in, in_all}

-- the children of a node are of classes
pub classes_at : {V : Type 0} (found : List (Found V)) (nodes : List Begun) (i : ℕ) (node : Begun) (children : List ℕ) → i < length nodes → node ≡ get_or nodes i node → children ≡ node.children.items → AreOfClasses (rows_of found) (map plain_begun nodes) → All (λ k. k < length found) children
classes_at found nodes i node children low at are own =
    subst (λ l. All (λ k. k < length found) l) (sym are)
    (subst (λ n. All (λ k. k < n) node.children.items) (length-map found (λ f. f.row)) (own (plain_begun node) (in_map plain_begun nodes node (i, low, sym at))))

-- a state that is asked for is one of those that rules demand
pub asked_low : {A : Type 0} (n c : ℕ) (rules : List (StaRule A)) (qs : List Row) (states : List ℕ) → All (λ r. All (λ d. All (λ s. s < n) d.items) r.demands.items) rules → ((s : ℕ) → Contains states s → AnyAsks c (map plain_rule rules) qs s) → All (λ s. s < n) states
asked_low {A} n c rules qs states own asks = in_all (λ s. s < n) states (λ s at.
    let (p, at_p, (same, met, demanded)) = asks s at in
    let (r, at_r, is) = map_member plain_rule rules p at_p in
    below r (all_in (λ r. All (λ d. All (λ s. s < n) d.items) r.demands.items) rules own r at_r) (length qs) s (subst (λ z. Contains (get_or z.demands (length qs) []) s) (sym is) demanded))
  where
    at_place : (ds : List (List ℕ)) (j s : ℕ) → Contains (get_or ds j []) s → Contains ds (get_or ds j [])
    at_place [] j s here = absurd (none_in s here)
    at_place (d ∷ ds) zero s here = first_in d ds
    at_place (d ∷ ds) (suc j) s here = later_in d (get_or ds j []) ds (at_place ds j s here)

    below : (r : StaRule A) → All (λ d. All (λ s. s < n) d.items) r.demands.items → (j s : ℕ) → Contains (get_or (map (λ d. d.items) r.demands.items) j []) s → s < n
    below r all j s here =
        let (v, at_v, is) = map_member (λ d. d.items) r.demands.items (get_or (map (λ d. d.items) r.demands.items) j []) (at_place (map (λ d. d.items) r.demands.items) j s here) in
        all_in (λ s. s < n) v.items (all_in (λ d. All (λ s. s < n) d.items) r.demands.items all v at_v) s (subst (λ l. Contains l s) (sym is) here)
