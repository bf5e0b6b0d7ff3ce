-- The guards and maps of what was built for an expression are those of the expression.
use Rattle.std.proofs.Common.{◌≡◌, inl, inr, ℕ, zero, suc, List, [], ◌∷◌, Contains, refl, sym, ap, subst, subst₂, ◌∙◌, arith}
use Rattle.fast_fault.specs.declared.place.Pos.{Pos}
use Rattle.model_tree.specs.Label.{Label}
use Rattle.model_sta.specs.Automaton.{Rule}
use Rattle.model_sta.specs.Operations.{Auto, AgreeIn, KeepsGuards}
use Rattle.model_sttr.specs.Transducer.{Sttr, Trans, GivesSame}
use Rattle.model_sttr.specs.Guards.{AgreeOn, AgreeBehind, IsMapOf, MakesAlike, IsChain}
use Rattle.model_sttr.specs.Operations.{asking, DomainKeepsGuards, PreImageKeepsGuards, RestrictionKeepsGuards, OutRestrictionKeepsGuards, CompositionKeepsGuards, KeepsMaps, ChainsMaps}
use Rattle.model_grammar.specs.declared.Op1.TheVariants.{Complement, Minimize, Domain}
use Rattle.model_grammar.specs.declared.Op2.TheVariants.{Intersect, Union, Difference, PreImage, Compose, Restrict, RestrictOut}
use Rattle.model_grammar.specs.Syntax.{X, named, one, two, Item}
use Rattle.model_run.specs.Parts.{operands, LooksBack, IsFrom}
use Rattle.model_run.specs.Seen.{LabelList, chained, list_label, Guard, put_in, guard_truth, IsLabelList, list_opened, list_of_operand, list_of_both, IsGuard, guard_opened, guard_of_operand, guard_put, Agree, IsLabelOf}
use Rattle.model_layers.specs.Seen.{IsSeen, IsSeenTrans, OperationsOnLanguagesAreSeen, OperationsOnTransformationsAreSeen, DefinitionsAreSeenThrough}
use Rattle.model_layers.proofs.Types.{restriction_from, out_restriction_from, composition_from}
use Rattle.model_layers.proofs.Chosen.{first_of, second_of}

-- the one element of a list
pub the_only : {A : Type 0} (x y : A) → Contains (x ∷ []) y → x ≡ y
the_only x y (zero, low, e) = e
the_only x y (suc k, low, e) = absurd (omega (arith, low))

module _ (items : List Item) (type : List ℕ) where
  -- labels that agree on the guards of an expression agree on those of another one that has fewer
  pub narrower : (e x : X) → ((g : Guard) → IsGuard items x type g → IsGuard items e type g) → (l m : Label) → Agree items (e ∷ []) type l m → Agree items (x ∷ []) type l m
  narrower e x among l m agree y at g is = agree e (first_of e []) g (among g (subst (λ z. IsGuard items z type g) (sym (the_only x y at)) is))

  of_operand : (e x : X) → Contains (operands e) x → (l m : Label) → Agree items (e ∷ []) type l m → Agree items (x ∷ []) type l m
  of_operand e x at = narrower e x (λ g is. guard_of_operand e x type g at is)

  -- an automaton over one or both operands
  by_both : (e x y : X) (a b c : Auto Label) → Contains (operands e) x → Contains (operands e) y → IsSeen items x type a.rules → IsSeen items y type b.rules → KeepsGuards a b c → IsSeen items e type c.rules
  by_both e x y a b c at other p q keeps l m is also agree = keeps l m (p l m is also (of_operand e x at l m agree)) (q l m is also (of_operand e y other l m agree))

pub languages_are_seen : OperationsOnLanguagesAreSeen
languages_are_seen items place x y type = record {
  union = λ a b c. by_both items type (two Union place x y) x y a b c (first_of x (y ∷ [])) (second_of x y);
  intersect = λ a b c. by_both items type (two Intersect place x y) x y a b c (first_of x (y ∷ [])) (second_of x y);
  difference = λ a b c. by_both items type (two Difference place x y) x y a b c (first_of x (y ∷ [])) (second_of x y);
  complement = λ a c p. by_both items type (one Complement place x) x x a a c (first_of x []) (first_of x []) p p;
  minimize = λ a c p. by_both items type (one Minimize place x) x x a a c (first_of x []) (first_of x []) p p;
}

-- ---- through a transformation

module _ (items : List Item) (e x y : X) (from into : List ℕ) (f : Sttr Label) (sf : IsSeenTrans items x from into f) (back : LooksBack e x y) (other : Contains (operands e) y) where
  abbrev D : Label → Type 0
  D = IsLabelOf items from

  -- labels that a map of the transformation made agree on the second operand
  made_agree : (n : Label → Label) → IsMapOf f n → (l m : Label) → D l → D m → Agree items (e ∷ []) from l m → Agree items (y ∷ []) into (n l) (n m)
  made_agree n is l m is_l is_m agree z at g guard =
      let (list, listed, same) = sf.maps n is in
      let its : IsGuard items y into g = subst (λ w. IsGuard items w into g) (sym (the_only y z at)) guard in
      let put : guard_truth g (list_label list l) ≡ guard_truth g (list_label list m) =
      agree e (first_of e []) (put_in list g) (guard_put e y from into list g (record { first = x; back = back; onto = sf.goes.2; list = listed }) its) in
      subst₂ (λ a b. guard_truth g a ≡ guard_truth g b) (sym (same l is_l)) (sym (same m is_m)) put

  -- labels as they are, where a child may be given unchanged
  unchanged_agree : GivesSame f → (l m : Label) → Agree items (e ∷ []) from l m → Agree items (y ∷ []) into l m
  unchanged_agree same l m agree = subst (λ type. Agree items (y ∷ []) type l m) (sf.gives_same same) (of_operand items from e y other l m agree)

  as_into : GivesSame f → (l : Label) → D l → IsLabelOf items into l
  as_into same l is = subst (λ type. IsLabelOf items type l) (sf.gives_same same) is

  -- so they agree behind the transformation on what the second was built to
  pub behind : (g : Sttr Label) → ((l m : Label) → IsLabelOf items into l → IsLabelOf items into m → Agree items (y ∷ []) into l m → AgreeOn g l m) → Contains (operands e) x
      → (l m : Label) → D l → D m → Agree items (e ∷ []) from l m → AgreeBehind f g l m
  behind g guards at l m is_l is_m agree = record {
    first = sf.guards l m is_l is_m (of_operand items from e x at l m agree);
    made = λ n is. guards (n l) (n m) (sf.makes n is l is_l) (sf.makes n is m is_m) (made_agree n is l m is_l is_m agree);
    unchanged = λ same. guards l m (as_into same l is_l) (as_into same m is_m) (unchanged_agree same l m agree);
  }

-- of states that are asked of outputs
asked : (rules : List (List (Rule Label))) (l m : Label) → AgreeIn rules l m → AgreeOn (asking rules) l m
asked rules l m agree = record { looks = agree; rules = λ q r at. absurd (omega (arith, at.1)) }

module _ (items : List Item) (place : Pos) (x y : X) (from into : List ℕ) (f : Trans Label) (sf : IsSeenTrans items x from into f.sttr) where
  abbrev From : Label → Type 0
  From = IsLabelOf items from

  domain_seen : (c : Auto Label) → DomainKeepsGuards From f c → IsSeen items (one Domain place x) from c.rules
  domain_seen c keeps l m is_l is_m agree = keeps l m is_l is_m (sf.guards l m is_l is_m (of_operand items from (one Domain place x) x (first_of x []) l m agree))

  pre_image_seen : (a c : Auto Label) → IsSeen items y into a.rules → PreImageKeepsGuards From f a c → IsSeen items (two PreImage place x y) from c.rules
  pre_image_seen a c sa keeps l m is_l is_m agree =
      keeps l m is_l is_m
      (behind items (two PreImage place x y) x y from into f.sttr sf (refl, refl) (second_of x y) (asking a.rules) (λ k n is_k is_n h. asked a.rules k n (sa k n is_k is_n h)) (first_of x (y ∷ [])) l m is_l is_m agree)

  -- maps of a transducer that makes the same labels
  module _ (e : X) (at : Contains (operands e) x) (goes : IsFrom items e from into) (c : Trans Label) (keeps : KeepsMaps From f c) (same : GivesSame c.sttr → GivesSame f.sttr) where
    kept : ((l m : Label) → From l → From m → Agree items (e ∷ []) from l m → AgreeOn c.sttr l m) → IsSeenTrans items e from into c.sttr
    kept guards = record {
      goes = goes;
      guards = guards;
      maps = λ n is. (
          let (m, mine, alike) = keeps n is in
          let (list, listed, makes) = sf.maps m mine in
          (list, list_of_operand e x from into list at listed, λ l d. alike l d ∙ makes l d));
      makes = λ n is l d. (let (m, mine, alike) = keeps n is in subst (IsLabelOf items into) (sym (alike l d)) (sf.makes m mine l d));
      gives_same = λ s. sf.gives_same (same s);
    }

  restriction_seen : (a : Auto Label) (c : Trans Label) → IsSeen items y from a.rules → RestrictionKeepsGuards From f a c → KeepsMaps From f c → (GivesSame c.sttr → GivesSame f.sttr) → IsSeenTrans items (two Restrict place x y) from into c.sttr
  restriction_seen a c sa keeps maps same =
      let e = two Restrict place x y in
      kept e (first_of x (y ∷ [])) (restriction_from items place x y from into sf.goes) c maps same
      (λ l m is_l is_m agree. keeps l m is_l is_m (sf.guards l m is_l is_m (of_operand items from e x (first_of x (y ∷ [])) l m agree)) (sa l m is_l is_m (of_operand items from e y (second_of x y) l m agree)))

  out_restriction_seen : (a : Auto Label) (c : Trans Label) → IsSeen items y into a.rules → OutRestrictionKeepsGuards From f a c → KeepsMaps From f c → (GivesSame c.sttr → GivesSame f.sttr) → IsSeenTrans items (two RestrictOut place x y) from into c.sttr
  out_restriction_seen a c sa keeps maps same =
      let e = two RestrictOut place x y in
      kept e (first_of x (y ∷ [])) (out_restriction_from items place x y from into sf.goes) c maps same
      (λ l m is_l is_m agree. keeps l m is_l is_m
      (behind items e x y from into f.sttr sf (refl, refl) (second_of x y) (asking a.rules) (λ k n is_k is_n h. asked a.rules k n (sa k n is_k is_n h)) (first_of x (y ∷ [])) l m is_l is_m agree))

  module _ (last : List ℕ) (g : Trans Label) (sg : IsSeenTrans items y into last g.sttr) where
    abbrev E : X
    E = two Compose place x y

    -- a chain of maps is one of label lists, and makes labels of the last type
    record IsListed (n : Label → Label) : Type 0 where
      list : LabelList
      is : IsLabelList items E from last list
      alike : MakesAlike From n (list_label list)
      makes : (l : Label) → From l → IsLabelOf items last (n l)

    listed : (n : Label → Label) → IsChain From f.sttr g.sttr n → IsListed n
    listed n (inl (m, mine, k, its, alike)) =
        let (first, is_first, same) = sf.maps m mine in
        let (second, is_second, also) = sg.maps k its in
        record {
          list = chained first second;
          is = list_of_both place x y from into last first second sf.goes.2 is_first is_second;
          alike = λ l d. alike l d ∙ also (m l) (sf.makes m mine l d) ∙ ap (list_label second) (same l d);
          makes = λ l d. subst (IsLabelOf items last) (sym (alike l d)) (sg.makes k its (m l) (sf.makes m mine l d));
        }
    listed n (inr (inl (unchanged, m, mine, alike))) =
        let (first, is_first, same) = sf.maps m mine in
        let one = sg.gives_same unchanged in
        record {
          list = first;
          is = list_of_operand E x from last first (first_of x (y ∷ [])) (subst (λ type. IsLabelList items x from type first) one is_first);
          alike = λ l d. alike l d ∙ same l d;
          makes = λ l d. subst (IsLabelOf items last) (sym (alike l d)) (subst (λ type. IsLabelOf items type (m l)) one (sf.makes m mine l d));
        }
    listed n (inr (inr (unchanged, k, its, alike))) =
        let (second, is_second, same) = sg.maps k its in
        let one = sf.gives_same unchanged in
        let into_too : (l : Label) → From l → IsLabelOf items into l = λ l d. subst (λ type. IsLabelOf items type l) one d in
        record {
          list = second;
          is = list_of_operand E y from last second (second_of x y) (subst (λ type. IsLabelList items y type last second) (sym one) is_second);
          alike = λ l d. alike l d ∙ same l (into_too l d);
          makes = λ l d. subst (IsLabelOf items last) (sym (alike l d)) (sg.makes k its l (into_too l d));
        }

    composition_seen : (c : Trans Label) → CompositionKeepsGuards From f g c → ChainsMaps From f g c → (GivesSame c.sttr → GivesSame f.sttr × GivesSame g.sttr) → IsSeenTrans items E from last c.sttr
    composition_seen c keeps maps same = record {
      goes = composition_from items place x y from into sf.goes last sg.goes;
      guards = λ l m is_l is_m agree. keeps l m is_l is_m (behind items E x y from into f.sttr sf (refl, refl) (second_of x y) g.sttr sg.guards (first_of x (y ∷ [])) l m is_l is_m agree);
      maps = λ n is. (let h = listed n (maps n is) in (h.list, h.is, h.alike));
      makes = λ n is. (listed n (maps n is)).makes;
      gives_same = λ s. (let both = same s in sf.gives_same both.0 ∙ sg.gives_same both.1);
    }

pub transformations_are_seen : OperationsOnTransformationsAreSeen
transformations_are_seen items place x y from into = record {
  domain = λ f c sf. domain_seen items place x y from into f sf c;
  pre_image = λ f a c sf. pre_image_seen items place x y from into f sf a c;
  restrict = λ f a c sf. restriction_seen items place x y from into f sf a c;
  restrict_out = λ f a c sf. out_restriction_seen items place x y from into f sf a c;
  compose = λ last f g c sf sg. composition_seen items place x y from into f sf last g sg c;
}

pub definitions_are_seen : DefinitionsAreSeenThrough
definitions_are_seen items n x opens = record {
  language = λ type rules seen l m is_l is_m agree. seen l m is_l is_m (narrower items type (named n) x (λ g is. guard_opened n x type g opens is) l m agree);
  transformation = λ from into f goes sf. record {
    goes = goes;
    guards = λ l m is_l is_m agree. sf.guards l m is_l is_m (narrower items from (named n) x (λ g is. guard_opened n x from g opens is) l m agree);
    maps = λ k is. (let (list, listed, same) = sf.maps k is in (list, list_opened n x from into list opens listed, same));
    makes = sf.makes;
    gives_same = sf.gives_same;
  };
}
