-- What operations on transducers promise carries automata and transducers of expressions up.
use Rattle.std.proofs.Common.{◌≡◌, ◌⊎◌, ◌↔◌, inl, inr, ℕ, ◌<◌, List, [], ◌∷◌, length, refl, sym, subst, ◌∙◌}
use Rattle.fast_fault.specs.declared.place.Pos.{Pos}
use Rattle.model_tree.specs.Label.{Label}
use Rattle.model_tree.specs.Tree.{LabelTree}
use Rattle.model_sta.specs.Operations.{Auto, Has, OfState}
use Rattle.model_sttr.specs.Transducer.{run, Trans, Gives, GivesSame}
use Rattle.model_sttr.specs.Operations.{AlikePairs, OfSources, OfOutputs, OfPairs, OfTransState, IsTransMadeOf, IsDomain, IsPreImage, IsRestriction, IsOutRestriction, IsComposition}
use Rattle.model_grammar.specs.declared.Op1.TheVariants.{Domain}
use Rattle.model_grammar.specs.declared.Op2.TheVariants.{PreImage, Compose, Restrict, RestrictOut}
use Rattle.model_grammar.specs.Syntax.{X, one, two, Item}
use Rattle.model_meaning.specs.Meaning.{IsRelated}
use Rattle.model_run.specs.Parts.{relation, IsFrom, language_of_operand, opened_language, all_sources, some_sources, own_relation, opened_relation, relation_of_operand, some_pairs, some_compositions}
use Rattle.model_layers.specs.Carries.{IsTyped, Carries, CarriesTrans, OperationsOnTransformationsCarry, DefinitionsCarry}
use Rattle.model_layers.proofs.Meanings.{domain_is, pre_image_is, restriction_is, out_restriction_is, composition_is}
use Rattle.model_layers.proofs.Types.{domain_on, pre_image_on, restriction_from, out_restriction_from, composition_from}
use Rattle.model_layers.proofs.Chosen.{first_of, second_of, IsOfPart, as_part, of_state}
use Rattle.model_layers.proofs.Heads.{IsOfRelation, of_all_sources, of_own_state, of_sources, of_outputs, of_pairs}
use Rattle.model_layers.proofs.Carry.{made}

module _ (items : List Item) where
  -- a transducer for an expression whose parts are told of each state but the start
  made_trans : (e : X) (from into : List ℕ) (c : Trans Label) (Q : (LabelTree → Type 0) → Type 0) (R : (LabelTree → LabelTree → Type 0) → Type 0) (S : Type 0) (P : LabelTree → LabelTree → Type 0) → IsFrom items e from into
      → IsTransMadeOf (IsTyped items from) Q R S c P → ((t u : LabelTree) → IsTyped items from t → P t u ↔ IsRelated items e t u) → ((t u : LabelTree) → IsTyped items from t → P t u → IsTyped items into u)
      → ((V : LabelTree → Type 0) → Q V → IsOfPart items from e V) → ((W : LabelTree → LabelTree → Type 0) → R W → IsOfRelation items e from into W) → (S → from ≡ into) → CarriesTrans items e from into c
  made_trans e from into c Q R S P goes promised same typed each_look each same_types =
      let means : AlikePairs (IsTyped items from) (Gives c.sttr (run c.start)) (IsRelated items e) = λ t u is. (λ g. (same t u is).0 ((promised.means t u is).0 g), λ r. (promised.means t u is).1 ((same t u is).1 r)) in
      let states : (q : ℕ) → q < length c.sttr.rules → IsOfRelation items e from into (Gives c.sttr (run q)) = λ q low. elim (promised.each_state q low) [
        | inl start ↦ record {
          part = relation e;
          is = own_relation e from into goes;
          alike = subst (λ s. AlikePairs (IsTyped items from) (Gives c.sttr (run s)) (IsRelated items e)) (sym start) means;
          typed = λ t u is g. typed t u is ((promised.means t u is).0 (subst (λ s. Gives c.sttr (run s) t u) start g));
        }
        | inr other ↦ each (Gives c.sttr (run q)) other
      ] in
      record {
        goes = goes;
        in_range = promised.in_range;
        means = means;
        each_state = λ q low. (let d = states q low in (d.part, d.is, d.alike));
        each_look = λ q low. as_part items from e (Has c.sttr.looks q) (each_look (Has c.sttr.looks q) (promised.each_look q low));
        typed = λ q t u low. (states q low).typed t u;
        gives_same = λ s. same_types (promised.gives_same s);
      }

  module _ (place : Pos) (x y : X) (from into : List ℕ) (f : Trans Label) (cf : CarriesTrans items x from into f) where
    abbrev Typed : LabelTree → Type 0
    Typed = IsTyped items from

    -- what is given to a tree of the type has the output type
    given : (t u : LabelTree) → Typed t → Gives f.sttr (run f.start) t u → IsTyped items into u
    given t u is g = cf.typed f.start t u cf.in_range is g

    pub domain_carries : (c : Auto Label) → IsDomain Typed f c → Carries items (one Domain place x) from c
    domain_carries c promised =
        let e = one Domain place x in
        made items from e c (λ P. OfState Typed f.sttr.looks P ⊎ OfSources Typed f.sttr [] P) (λ t. (u : LabelTree) × Gives f.sttr (run f.start) t u) (domain_on items place x y from into cf.goes) promised
        (λ t is. let means = domain_is items place x y t in (
          λ h. means.0 (h.0, (cf.means t h.0 is).0 h.1),
          λ h. (let s = means.1 h in (s.0, (cf.means t s.0 is).1 s.1)),
        ))
        (λ V other. elim other [
          | inl look ↦ of_state items from x e f.sttr.looks V (λ d p. language_of_operand e x from d (first_of x []) p) cf.each_look look
          | inr some ↦ of_all_sources items x from into f cf e V (λ r is. all_sources place x from into r is) some
        ])

    pub pre_image_carries : (a c : Auto Label) → Carries items y into a → IsPreImage Typed f a c → Carries items (two PreImage place x y) from c
    pre_image_carries a c ca promised =
        let e = two PreImage place x y in
        made items from e c (λ P. OfState Typed f.sttr.looks P ⊎ OfSources Typed f.sttr a.rules P) (λ t. (u : LabelTree) × Gives f.sttr (run f.start) t u × Has a.rules a.start u) (pre_image_on items place x y from into cf.goes) promised
        (λ t is. let means = pre_image_is items place x y t in (
          λ h. means.0 (h.0, (cf.means t h.0 is).0 h.1, (ca.means h.0 (given t h.0 is h.1)).0 h.2),
          λ h. (let s = means.1 h in let g = (cf.means t s.0 is).1 s.1 in (s.0, g, (ca.means s.0 (given t s.0 is g)).1 s.2)),
        ))
        (λ V other. elim other [
          | inl look ↦ of_state items from x e f.sttr.looks V (λ d p. language_of_operand e x from d (first_of x (y ∷ [])) p) cf.each_look look
          | inr some ↦ of_sources items x from into f cf y a.rules ca.each_state e V (λ r ds is are. some_sources e x y from into r ds (refl, refl) is are) some
        ])

    pub restriction_carries : (a : Auto Label) (c : Trans Label) → Carries items y from a → IsRestriction Typed f a c → CarriesTrans items (two Restrict place x y) from into c
    restriction_carries a c ca promised =
        let e = two Restrict place x y in
        made_trans e from into c (λ P. OfState Typed f.sttr.looks P ⊎ OfState Typed a.rules P) (OfTransState Typed f.sttr) (GivesSame f.sttr) (λ t u. Gives f.sttr (run f.start) t u × Has a.rules a.start t)
        (restriction_from items place x y from into cf.goes) promised
        (λ t u is. let means = restriction_is items place x y t u in (
          λ h. means.0 ((cf.means t u is).0 h.0, (ca.means t is).0 h.1),
          λ h. (let s = means.1 h in ((cf.means t u is).1 s.0, (ca.means t is).1 s.1)),
        ))
        (λ t u is h. given t u is h.0)
        (λ V other. elim other [
          | inl look ↦ of_state items from x e f.sttr.looks V (λ d p. language_of_operand e x from d (first_of x (y ∷ [])) p) cf.each_look look
          | inr state ↦ of_state items from y e a.rules V (λ d p. language_of_operand e y from d (second_of x y) p) ca.each_state state
        ])
        (λ W o. of_own_state items x from into f cf e W (λ r p. relation_of_operand e x from into r (first_of x (y ∷ [])) p) o)
        (λ s. cf.gives_same s)

    pub out_restriction_carries : (a : Auto Label) (c : Trans Label) → Carries items y into a → IsOutRestriction Typed f a c → CarriesTrans items (two RestrictOut place x y) from into c
    out_restriction_carries a c ca promised =
        let e = two RestrictOut place x y in
        made_trans e from into c (λ P. OfState Typed f.sttr.looks P ⊎ OfSources Typed f.sttr a.rules P) (OfOutputs Typed f.sttr a.rules) (GivesSame f.sttr) (λ t u. Gives f.sttr (run f.start) t u × Has a.rules a.start u)
        (out_restriction_from items place x y from into cf.goes) promised
        (λ t u is. let means = out_restriction_is items place x y t u in (
          λ h. means.0 ((cf.means t u is).0 h.0, (ca.means u (given t u is h.0)).0 h.1),
          λ h. (let s = means.1 h in let g = (cf.means t u is).1 s.0 in (g, (ca.means u (given t u is g)).1 s.1)),
        ))
        (λ t u is h. given t u is h.0)
        (λ V other. elim other [
          | inl look ↦ of_state items from x e f.sttr.looks V (λ d p. language_of_operand e x from d (first_of x (y ∷ [])) p) cf.each_look look
          | inr some ↦ of_sources items x from into f cf y a.rules ca.each_state e V (λ r ds is are. some_sources e x y from into r ds (refl, refl) is are) some
        ])
        (λ W o. of_outputs items x from into f cf y a.rules ca.each_state e W (λ r ds is are. some_pairs e x y from into r ds (refl, refl) is are) o)
        (λ s. cf.gives_same s)

    pub composition_carries : (last : List ℕ) (g c : Trans Label) → CarriesTrans items y into last g → IsComposition Typed f g c → CarriesTrans items (two Compose place x y) from last c
    composition_carries last g c cg promised =
        let e = two Compose place x y in
        made_trans e from last c (λ P. OfState Typed f.sttr.looks P ⊎ OfSources Typed f.sttr g.sttr.looks P) (OfPairs Typed f.sttr g.sttr) (GivesSame f.sttr × GivesSame g.sttr)
        (λ t w. (u : LabelTree) × Gives f.sttr (run f.start) t u × Gives g.sttr (run g.start) u w) (composition_from items place x y from into cf.goes last cg.goes) promised
        (λ t w is. let means = composition_is items place x y t w in (
          λ h. means.0 (h.0, (cf.means t h.0 is).0 h.1, (cg.means h.0 w (given t h.0 is h.1)).0 h.2),
          λ h. (let s = means.1 h in let first = (cf.means t s.0 is).1 s.1 in (s.0, first, (cg.means s.0 w (given t s.0 is first)).1 s.2)),
        ))
        (λ t w is h. cg.typed g.start h.0 w cg.in_range (given t h.0 is h.1) h.2)
        (λ V other. elim other [
          | inl look ↦ of_state items from x e f.sttr.looks V (λ d p. language_of_operand e x from d (first_of x (y ∷ [])) p) cf.each_look look
          | inr some ↦ of_sources items x from into f cf y g.sttr.looks cg.each_look e V (λ r ds is are. some_sources e x y from into r ds (refl, refl) is are) some
        ])
        (λ W o. of_pairs items e x y from into last f g W cf cg (λ r s ds is also are. some_compositions place x y from into last r s ds is also are) o)
        (λ both. cf.gives_same both.0 ∙ cg.gives_same both.1)

pub operations_carry : OperationsOnTransformationsCarry
operations_carry items place x y from into = record {
  domain = λ f c cf promised. domain_carries items place x y from into f cf c promised;
  pre_image = λ f a c cf ca promised. pre_image_carries items place x y from into f cf a c ca promised;
  restrict = λ f a c cf ca promised. restriction_carries items place x y from into f cf a c ca promised;
  restrict_out = λ f a c cf ca promised. out_restriction_carries items place x y from into f cf a c ca promised;
  compose = λ last f g c cf cg promised. composition_carries items place x y from into f cf last g c cg promised;
}

-- ---- names of definitions

pub definitions_carry : DefinitionsCarry
definitions_carry items n x = record {
  language = λ type a opens on same built. record {
    is_on = on;
    in_range = built.in_range;
    means = λ t typed. (λ h. (same t).1 ((built.means t typed).0 h), λ h. (built.means t typed).1 ((same t).0 h));
    each_state = λ q low. (let d = built.each_state q low in (d.0, opened_language n x type d.0 opens d.1, d.2));
  };
  transformation = λ from into f opens goes same built. record {
    goes = goes;
    in_range = built.in_range;
    means = λ t u typed. (λ h. (same t u).1 ((built.means t u typed).0 h), λ h. (built.means t u typed).1 ((same t u).0 h));
    each_state = λ q low. (let d = built.each_state q low in (d.0, opened_relation n x from into d.0 opens d.1, d.2));
    each_look = λ q low. (let d = built.each_look q low in (d.0, opened_language n x from d.0 opens d.1, d.2));
    typed = built.typed;
    gives_same = built.gives_same;
  };
}
