-- What is found of the calls on the children of a node, and how often each is to come.
use Rattle.std.specs.Prelude.{ℕ, ◌≡◌, ◌<◌, ◌≤◌, ◌+◌, List, [], ◌∷◌, map, length, get_or, Vec, Contains}
use Rattle.std.specs.declared.cmp.Ordering.{Ordering}
use Rattle.model_tree.specs.Label.{Label}
use Rattle.model_tree.specs.Tree.{Tree, list_of, children_of}
use Rattle.model_sttr.specs.Terms.{Term, Parts, no_parts, part}
use Rattle.model_sttr.specs.Transducer.{Sttr}
use Rattle.apply_laws.specs.Found.{listed}
use Rattle.apply_laws.specs.Terms.{IsCallFoundAt}
use Rattle.sttr_apply.specs.Calls.{used, uses_in}
use Rattle.sttr_apply.specs.Labels.{keeps, Outside}
use Rattle.sttr_apply.specs.Plain.{out_cut}
use Rattle.sttr_apply.specs.declared.calls.Entry.{Entry}

abbrev pub parts_in : {H M : Type 0} → List (Term H M) → Parts H M
parts_in [] = no_parts
parts_in (p ∷ ps) = part p (parts_in ps)

module _ {V : Type 0} where
  abbrev pub lists_in : {G : Type 0} → List (Vec (Entry V) G) → List (List (Entry V))
  lists_in table = map (λ entries. entries.items) table

  -- for how many uses more the state is there on the child
  abbrev pub uses_at : List (List (Entry V)) → ℕ → ℕ → ℕ
  uses_at table q k = used (uses_in (get_or table k [])) q

  -- on each child each state is there for so many uses
  abbrev pub HasUses : List (List (Entry V)) → (ℕ → ℕ → ℕ) → Type 0
  HasUses table n = (q k : ℕ) → k < length table → n q k ≤ uses_at table q k

  -- and no more than so many uses were made
  abbrev pub KeepsUses : List (List (Entry V)) → List (List (Entry V)) → (ℕ → ℕ → ℕ) → Type 0
  KeepsUses old new n = (q k : ℕ) → k < length old → uses_at old q k ≤ uses_at new q k + n q k

  module _ (label : V → Label) (order : V → V → Ordering) (f : Sttr Label) (tree : Tree V) where
    -- each entry that has uses to come is what is found of the call
    abbrev pub AreFoundAt : List (List (Entry V)) → Type 0
    AreFoundAt table = (k : ℕ) (e : Entry V) → Contains (get_or table k []) e → 0 < e.uses → IsCallFoundAt label order keeps Outside f e.state k (children_of tree) (listed (map out_cut e.listing.outs.items) e.listing.far)

    pub record IsTable (table : List (List (Entry V))) : Type 0 where
      pub width : length table ≡ length (list_of (children_of tree))
      pub found : AreFoundAt table
