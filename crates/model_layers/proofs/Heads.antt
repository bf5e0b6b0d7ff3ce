-- Heads of a transducer as relations, and what is made of them and of states as parts of expressions.
use Rattle.std.proofs.Common.{◌≡◌, ◌↔◌, ℕ, List, [], ◌∷◌, refl, subst, arith}
use Rattle.model_tree.specs.Label.{Label}
use Rattle.model_tree.specs.Tree.{node, LabelTree}
use Rattle.model_sta.specs.Automaton.{Rule}
use Rattle.model_sta.specs.Operations.{HasAll, AreStates}
use Rattle.model_sttr.specs.Transducer.{Head, identity as itself, run, Sttr, Trans, Gives, IsHead}
use Rattle.model_sttr.specs.Operations.{AlikePairs, OfSources, OfOutputs, OfPairs, OfTransState}
use Rattle.model_grammar.specs.Syntax.{X, Item}
use Rattle.model_run.specs.Parts.{RelationPart, identity, through, LanguageParts, no_parts, sources, RelatesByPart, IsPart, ArePartsOf, IsRelationOrIdentity, the_identity, a_relation, IsRelationPart}
use Rattle.model_layers.specs.Carries.{IsTyped, AreParts, CarriesTrans}
use Rattle.model_layers.proofs.Chosen.{first_of, IsOfPart, chosen}

gives_itself : (f : Sttr Label) (t u : LabelTree) → Gives f itself t u ↔ (t ≡ u)
gives_itself f (node c l ts) u = (λ h. h, λ h. h)

none_asked : (all : List ℕ) → AreStates {L = Label} [] all → (u : LabelTree) → HasAll [] all u
none_asked [] low u = tt
none_asked (s ∷ all) low u = absurd (omega (arith, low.0))

module _ (items : List Item) where
  -- a relation between trees of two types that is a part of the expression
  pub record IsOfRelation (e : X) (from into : List ℕ) (R : LabelTree → LabelTree → Type 0) : Type 0 where
    pub part : RelationPart
    pub is : IsRelationPart items e from into part
    pub alike : AlikePairs (IsTyped items from) R (RelatesByPart items part)
    pub typed : (t u : LabelTree) → IsTyped items from t → R t u → IsTyped items into u

  module _ (x : X) (from into : List ℕ) (f : Trans Label) (c : CarriesTrans items x from into f) where
    pub record HeadIs (h : Head) : Type 0 where
      pub part : RelationPart
      pub is : IsRelationOrIdentity items x from into part
      pub links : AlikePairs (IsTyped items from) (Gives f.sttr h) (RelatesByPart items part)
      pub typed : (t u : LabelTree) → IsTyped items from t → Gives f.sttr h t u → IsTyped items into u

    pub head_is : (h : Head) → IsHead f.sttr h → HeadIs h
    head_is itself here =
        let one : from ≡ into = c.gives_same here in
        record {
          part = identity;
          is = subst (λ type. IsRelationOrIdentity items x from type identity) one (the_identity x from);
          links = λ t u typed. gives_itself f.sttr t u;
          typed = λ t u typed g. subst (λ type. IsTyped items type u) one (subst (IsTyped items from) ((gives_itself f.sttr t u).0 g) typed);
        }
    head_is (run q) low =
        let d = c.each_state q low in
        record { part = d.0; is = a_relation x from into d.0 d.1; links = d.2; typed = λ t u typed g. c.typed q t u low typed g }

    -- inputs with some output, as a domain has them
    pub of_all_sources : (e : X) (Q : LabelTree → Type 0) → ((r : RelationPart) → IsRelationOrIdentity items x from into r → IsPart items e from (sources r no_parts)) → OfSources (IsTyped items from) f.sttr [] Q → IsOfPart items from e Q
    of_all_sources e Q made o =
        let h = head_is o.head o.is_head in
        record {
          part = sources h.part no_parts;
          is = made h.part h.is;
          alike = λ t typed. (
            λ q. (let s = (o.same t typed).0 q in (s.0, (h.links t s.0 typed).0 s.1, tt)),
            λ s. (o.same t typed).1 (s.0, (h.links t s.0 typed).1 s.1, none_asked o.all o.are s.0),
          );
        }

    -- a state's relation, as one of another expression
    pub of_own_state : (e : X) (R : LabelTree → LabelTree → Type 0) → ((r : RelationPart) → IsRelationPart items x from into r → IsRelationPart items e from into r) → OfTransState (IsTyped items from) f.sttr R → IsOfRelation e from into R
    of_own_state e R to (q, low, same) =
        let d = c.each_state q low in
        record {
          part = d.0;
          is = to d.0 d.1;
          alike = λ t u typed. (λ r. (d.2 t u typed).0 ((same t u typed).0 r), λ r. (same t u typed).1 ((d.2 t u typed).1 r));
          typed = λ t u typed r. c.typed q t u low typed ((same t u typed).0 r);
        }

    module _ (y : X) (rules : List (List (Rule Label))) (parts : AreParts items y into rules) where
      -- inputs with an output in all of some states
      pub of_sources : (e : X) (Q : LabelTree → Type 0) → ((r : RelationPart) (ds : LanguageParts) → IsRelationOrIdentity items x from into r → ArePartsOf items (y ∷ []) into ds → IsPart items e from (sources r ds))
          → OfSources (IsTyped items from) f.sttr rules Q → IsOfPart items from e Q
      of_sources e Q made o =
          let h = head_is o.head o.is_head in
          let k = chosen items into (y ∷ []) y rules (first_of y []) parts o.all o.are in
          record {
            part = sources h.part k.parts;
            is = made h.part k.parts h.is k.are;
            alike = λ t typed. (
              λ q. (let s = (o.same t typed).0 q in (s.0, (h.links t s.0 typed).0 s.1, (k.all s.0 (h.typed t s.0 typed s.1)).0 s.2)),
              λ s. (let g = (h.links t s.0 typed).1 s.1 in (o.same t typed).1 (s.0, g, (k.all s.0 (h.typed t s.0 typed g)).1 s.2)),
            );
          }

      -- pairs whose output is in all of some states
      pub of_outputs : (e : X) (R : LabelTree → LabelTree → Type 0) → ((r : RelationPart) (ds : LanguageParts) → IsRelationOrIdentity items x from into r → ArePartsOf items (y ∷ []) into ds → IsRelationPart items e from into (through r identity ds))
          → OfOutputs (IsTyped items from) f.sttr rules R → IsOfRelation e from into R
      of_outputs e R made o =
          let h = head_is o.head o.is_head in
          let k = chosen items into (y ∷ []) y rules (first_of y []) parts o.all o.are in
          record {
            part = through h.part identity k.parts;
            is = made h.part k.parts h.is k.are;
            alike = λ t u typed. (
              λ r. (let s = (o.same t u typed).0 r in (u, (h.links t u typed).0 s.0, refl, (k.all u (h.typed t u typed s.0)).0 s.1)),
              λ s. (
                  let first = (h.links t s.0 typed).1 s.1 in
                  (o.same t u typed).1 (subst (λ w. Gives f.sttr o.head t w × HasAll rules o.all w) s.2 (first, (k.all s.0 (h.typed t s.0 typed first)).1 s.3))),
            );
            typed = λ t u typed r. h.typed t u typed ((o.same t u typed).0 r).0;
          }

-- pairs through a tree in all of some states
pub of_pairs : (items : List Item) (e x y : X) (from into last : List ℕ) (f g : Trans Label) (R : LabelTree → LabelTree → Type 0) → CarriesTrans items x from into f → CarriesTrans items y into last g
    → ((r s : RelationPart) (ds : LanguageParts) → IsRelationOrIdentity items x from into r → IsRelationOrIdentity items y into last s → ArePartsOf items (y ∷ []) into ds → IsRelationPart items e from last (through r s ds))
    → OfPairs (IsTyped items from) f.sttr g.sttr R → IsOfRelation items e from last R
of_pairs items e x y from into last f g R cf cg made o =
    let h = head_is items x from into f cf o.first o.is_first in
    let k = head_is items y into last g cg o.second o.is_second in
    let z = chosen items into (y ∷ []) y g.sttr.looks (first_of y []) cg.each_look o.all o.are in
    record {
      part = through h.part k.part z.parts;
      is = made h.part k.part z.parts h.is k.is z.are;
      alike = λ t w typed. (
        λ r. (let s = (o.same t w typed).0 r in let middle = h.typed t s.0 typed s.1 in (s.0, (h.links t s.0 typed).0 s.1, (k.links s.0 w middle).0 s.3, (z.all s.0 middle).0 s.2)),
        λ s. (let first = (h.links t s.0 typed).1 s.1 in let middle = h.typed t s.0 typed first in (o.same t w typed).1 (s.0, first, (z.all s.0 middle).1 s.3, (k.links s.0 w middle).1 s.2)),
      );
      typed = λ t w typed r. (let s = (o.same t w typed).0 r in k.typed s.0 w (h.typed t s.0 typed s.1) s.3);
    }
