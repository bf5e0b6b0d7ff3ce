-- Comparisons, label lists, forms and chains go up.
use Rattle.std.proofs.Common.{◌≡◌, ◌⊎◌, inl, inr, ◌<◌, ℕ, zero, suc, List, [], ◌∷◌, ◌++◌, get_or, length, Contains, Some, true, refl, ap, sym, subst, ◌∙◌, arith}
use Rattle.std.proofs.Math.IntN.{ℤ, pos}
use Rattle.std.proofs.lemmas.List.Elements.{All-weaker, All-contains}
use Rattle.fast_fault.specs.declared.place.Pos.{Pos}
use Rattle.model_form.specs.Form.{Form, form, Remainders, no_remainders, remainder}
use Rattle.model_form.specs.Same.{Item as Member, IsIn, members, ordered, same_form}
use Rattle.model_form.specs.Sums.{number_form, subst_form}
use Rattle.model_form.specs.Ranges.{IsOutside, IsOutsideAfter, IsOutsideWithin}
use Rattle.model_form.proofs.Equals.{same_in, same_parts, same_remainders_out}
use Rattle.form_laws.specs.Laws.{AreSame}
use Rattle.form_laws.proofs.Putting.{same_itself, same_turned, same_further, put_same}
use Rattle.form_laws.proofs.Outside.{in_both, outside_in_both}
use Rattle.model_chain.specs.Literals.{Compare, Literal}
use Rattle.model_grammar.specs.declared.Op2.TheVariants.{Compose}
use Rattle.model_grammar.specs.Syntax.{X, named, two, Item}
use Rattle.model_names.specs.Kinds.{output_of}
use Rattle.model_run.specs.Parts.{operands, LooksBack}
use Rattle.model_run.specs.Seen.{LabelList, chained, list_forms, put_compare, IsLabelList, list_opened, list_of_operand, list_of_both, IsPutList, IsCompare, compare_opened, compare_of_operand, compare_put, IsFormIn, IsFormInOne, put_in_compare, put_in_list, IsSameCompare}
use Rattle.model_layers.specs.Compared.{IsOneOf, AreSameForms, put_forms, chained_forms, TransducerForms, IsPutOf, IsChainOf, AreCompared, AreComparedTrans, ComparesGoUp, HasOutside, NumbersGoUp, WidthsGoUp}
use Rattle.model_layers.proofs.Chosen.{first_of, second_of}
use Rattle.model_layers.proofs.Far.{far_labels_go_up}

-- ---- the same comparisons

compare_further : (c d e : Compare) → IsSameCompare c d → IsSameCompare d e → IsSameCompare c e
compare_further c d e first second = (first.0 ∙ second.0, same_further c.left d.left e.left first.1 second.1, same_further c.right d.right e.right first.2 second.2)

-- ---- lists of forms

all_same : (gs hs : List Form) → AreSameForms gs hs → AreSame gs hs
all_same [] [] h i = same_itself (number_form (pos 0))
all_same [] (g ∷ hs) h i = absurd h
all_same (g ∷ gs) [] h i = absurd h
all_same (g ∷ gs) (k ∷ hs) h zero = h.0
all_same (g ∷ gs) (k ∷ hs) h (suc i) = all_same gs hs h.1 i

all_turned : (gs hs : List Form) → AreSameForms gs hs → AreSameForms hs gs
all_turned [] [] h = tt
all_turned [] (g ∷ hs) h = absurd h
all_turned (g ∷ gs) [] h = absurd h
all_turned (g ∷ gs) (k ∷ hs) h = (same_turned g k h.0, all_turned gs hs h.1)

all_further : (fs gs hs : List Form) → AreSameForms fs gs → AreSameForms gs hs → AreSameForms fs hs
all_further [] [] [] h k = tt
all_further [] [] (x ∷ hs) h k = absurd k
all_further [] (g ∷ gs) hs h k = absurd h
all_further (f ∷ fs) [] hs h k = absurd h
all_further (f ∷ fs) (g ∷ gs) [] h k = absurd k
all_further (f ∷ fs) (g ∷ gs) (x ∷ hs) h k = (same_further f g x h.0 k.0, all_further fs gs hs h.1 k.1)

all_chained : (ms ks gs hs : List Form) → AreSameForms ms ks → AreSameForms gs hs → AreSameForms (chained_forms ms gs) (chained_forms ks hs)
all_chained ms ks [] [] same h = tt
all_chained ms ks [] (g ∷ hs) same h = absurd h
all_chained ms ks (g ∷ gs) [] same h = absurd h
all_chained ms ks (g ∷ gs) (k ∷ hs) same h = (put_same g k ms ks h.0 (all_same ms ks same), all_chained ms ks gs hs same h.1)

-- what is in the second list has an equal one in the first
partner_at : (gs hs : List Form) → AreSameForms gs hs → (k : ℕ) (h : Form) → k < length hs → get_or hs k h ≡ h → (g : Form) × Contains gs g × (same_form g h ≡ true)
partner_at [] [] same k h low at = absurd (omega (arith, low))
partner_at [] (x ∷ hs) same k h low at = absurd same
partner_at (g ∷ gs) [] same k h low at = absurd same
partner_at (g ∷ gs) (x ∷ hs) same zero h low at = (g, first_of g gs, subst (λ z. same_form g z ≡ true) at same.0)
partner_at (g ∷ gs) (x ∷ hs) same (suc k) h low at = let (f, (i, i_low, here), is) = partner_at gs hs same.1 k h (omega (arith, low)) at in (f, (suc i, omega (arith, i_low), here), is)

partner : (gs hs : List Form) → AreSameForms gs hs → (h : Form) → Contains hs h → (g : Form) × Contains gs g × (same_form g h ≡ true)
partner gs hs same h at = partner_at gs hs same at.0 h at.1 at.2

-- ---- inner forms

-- a remainder with this member
with_member : (rs : Remainders) (x : Member) → IsIn x (members rs) → (f : Form) → ordered f ≡ x.inner → (g : Form) × (same_form f g ≡ true) × ((h : Form) → IsFormIn g h → IsFormInOne rs h)
with_member no_remainders x at f e = absurd at
with_member (remainder a g k rs) x (inl is) f e = (g, same_in f g (e ∙ ap (λ y. y.inner) is), λ h inside. inl inside)
with_member (remainder a g k rs) x (inr at) f e = let (g', same, inside) = with_member rs x at f e in (g', same, λ h here. inr (inside h here))

mutual
  -- an inner form of a form has an equal one in an equal form
  inner : (f g h : Form) → same_form f g ≡ true → IsFormIn f h → (k : Form) × IsFormIn g k × (same_form h k ≡ true)
  inner (form c ts rs) (form d us qs) h e (inl is) = (form d us qs, inl refl, subst (λ z. same_form z (form d us qs) ≡ true) (sym is) e)
  inner (form c ts rs) (form d us qs) h e (inr inside) =
      let among = (same_remainders_out rs qs (same_parts c d ts us rs qs e).2).1 in
      let (k, there, same) = inner_of_one rs qs (λ x at. in_both (members rs) (members qs) among x at) h inside in
      (k, inr there, same)

  inner_of_one : (rs qs : Remainders) → ((x : Member) → IsIn x (members rs) → IsIn x (members qs)) → (h : Form) → IsFormInOne rs h → (k : Form) × IsFormInOne qs k × (same_form h k ≡ true)
  inner_of_one no_remainders qs among h inside = absurd inside
  inner_of_one (remainder a f k rs) qs among h (inl inside) =
      let x : Member = record { coefficient = a; inner = ordered f; divisor = k } in
      let (g, same, here) = with_member qs x (among x (inl refl)) f refl in
      let (k', within, also) = inner f g h same inside in
      (k', here k' within, also)
  inner_of_one (remainder a f k rs) qs among h (inr later) = inner_of_one rs qs (λ x at. among x (inr at)) h later

mutual
  -- what is outside after putting is outside in what is made of the form or of an inner form
  outside_after : (f : Form) (gs : List Form) (n : ℤ) → IsOutsideAfter f gs n → (h : Form) × IsFormIn f h × IsOutside (subst_form h gs) n
  outside_after (form c ts rs) gs n (inl out) = (form c ts rs, inl refl, out)
  outside_after (form c ts rs) gs n (inr within) = let (h, inside, out) = outside_within rs gs n within in (h, inr inside, out)

  outside_within : (rs : Remainders) (gs : List Form) (n : ℤ) → IsOutsideWithin rs gs n → (h : Form) × IsFormInOne rs h × IsOutside (subst_form h gs) n
  outside_within no_remainders gs n out = absurd out
  outside_within (remainder a f k rs) gs n (inl after) = let (h, inside, out) = outside_after f gs n after in (h, inl inside, out)
  outside_within (remainder a f k rs) gs n (inr later) = let (h, inside, out) = outside_within rs gs n later in (h, inr inside, out)

-- so it is outside in what is made of equal ones
outside_as_well : (f g : Form) (gs hs : List Form) (n : ℤ) → same_form f g ≡ true → AreSameForms gs hs → IsOutsideAfter f gs n → (k : Form) × IsFormIn g k × IsOutside (subst_form k hs) n
outside_as_well f g gs hs n e same after =
    let (h, inside, out) = outside_after f gs n after in
    let (k, there, also) = inner f g h e inside in
    (k, there, outside_in_both (subst_form h gs) (subst_form k hs) n (put_same h k gs hs also (all_same gs hs same)) out)

-- ---- expressions

module _ (items : List Item) where
  compared_by : (e x : X) (type : List ℕ) (firsts : List Compare) (c : Compare) → ((d : Compare) → IsCompare items x type d → IsCompare items e type d) → AreCompared items x type firsts → IsOneOf firsts c → (d : Compare) × IsCompare items e type d × IsSameCompare d c
  compared_by e x type firsts c to are (b, at, same) =
      let (d, is, also) = All-contains (λ c. (d : Compare) × IsCompare items x type d × IsSameCompare d c) firsts b are at in
      (d, to d is, compare_further d b c also same)

  -- the label list of a map of the transducer
  list_of : (x : X) (from into : List ℕ) (f : TransducerForms) → AreComparedTrans items x from into f → (ms : List Form) → Contains f.maps ms → (m : LabelList) × IsLabelList items x from into m × AreSameForms (list_forms m) ms
  list_of x from into f are ms at = All-contains (λ ms. (m : LabelList) × IsLabelList items x from into m × AreSameForms (list_forms m) ms) f.maps ms are.maps at

  module _ (e x y : X) (from into : List ℕ) (f : TransducerForms) (firsts : List Compare) (back : LooksBack e x y) (onto : output_of items x ≡ Some into) (are : AreComparedTrans items x from into f) (asked : AreCompared items y into firsts) where
    put_list : (m : LabelList) → IsLabelList items x from into m → IsPutList items e y from into m
    put_list m is = record { first = x; back = back; onto = onto; list = is }

    put_one : (c : Compare) → Contains (operands e) x → Contains (operands e) y → IsPutOf (from ≡ into) f firsts c → (d : Compare) × IsCompare items e from d × IsSameCompare d c
    put_one c at other (inl own) = compared_by e x from f.compares c (λ d is. compare_of_operand e x from d at is) are.compares own
    put_one c at other (inr (inl (ms, there, b, in_as, same))) =
        let (m, listed, forms) = list_of x from into f are ms there in
        let (d, is, also) = All-contains (λ c. (d : Compare) × IsCompare items y into d × IsSameCompare d c) firsts b asked in_as in
        let all = all_same (list_forms m) ms forms in (
          put_compare m d,
          compare_put e y from into m d (put_list m listed) is,
          compare_further (put_compare m d) (put_forms ms b) c (also.0, put_same d.left b.left (list_forms m) ms also.1 all, put_same d.right b.right (list_forms m) ms also.2 all) same,
        )
    put_one c at other (inr (inr (one, asks))) = compared_by e y from firsts c (λ d is. compare_of_operand e y from d other is) (subst (λ type. AreCompared items y type firsts) (sym one) asked) asks

    put_number : (ms : List Form) → Contains f.maps ms → (c : Compare) → Contains firsts c → (n : ℤ) → IsOutsideAfter c.left ms n ⊎ IsOutsideAfter c.right ms n → HasOutside items e n
    put_number ms there c in_as n outside =
        let (m, listed, forms) = list_of x from into f are ms there in
        let (d, is, also) = All-contains (λ c. (d : Compare) × IsCompare items y into d × IsSameCompare d c) firsts c asked in_as in
        let back_to = all_turned (list_forms m) ms forms in
        elim outside [
          | inl left ↦ (let (k, inside, out) = outside_as_well c.left d.left ms (list_forms m) n (same_turned d.left c.left also.1) back_to left in (subst_form k (list_forms m), put_in_compare e y from into m d k (put_list m listed) is (inl inside), out))
          | inr right ↦ (let (k, inside, out) = outside_as_well c.right d.right ms (list_forms m) n (same_turned d.right c.right also.2) back_to right in (subst_form k (list_forms m), put_in_compare e y from into m d k (put_list m listed) is (inr inside), out))
        ]

  module _ (place : Pos) (x y : X) (from into last : List ℕ) (f g : TransducerForms) (onto : output_of items x ≡ Some into) (are : AreComparedTrans items x from into f) (also : AreComparedTrans items y into last g) where
    abbrev E : X
    E = two Compose place x y

    chained_one : (ks : List Form) → IsChainOf (from ≡ into) (into ≡ last) f g ks → (m : LabelList) × IsLabelList items E from last m × AreSameForms (list_forms m) ks
    chained_one ks (inl (ms, ns, at, other, same)) =
        let (m, listed, forms) = list_of x from into f are ms at in
        let (n, listed', forms') = list_of y into last g also ns other in
        (chained m n, list_of_both place x y from into last m n onto listed listed', all_further (list_forms (chained m n)) (chained_forms ms ns) ks (all_chained (list_forms m) ms (list_forms n) ns forms forms') same)
    chained_one ks (inr (inl (one, ms, at, same))) =
        let (m, listed, forms) = list_of x from into f are ms at in
        (m, list_of_operand E x from last m (first_of x (y ∷ [])) (subst (λ type. IsLabelList items x from type m) one listed), all_further (list_forms m) ms ks forms same)
    chained_one ks (inr (inr (one, ns, at, same))) =
        let (n, listed, forms) = list_of y into last g also ns at in
        (n, list_of_operand E y from last n (second_of x y) (subst (λ type. IsLabelList items y type last n) (sym one) listed), all_further (list_forms n) ns ks forms same)

    chained_number : (ms ns : List Form) → Contains f.maps ms → Contains g.maps ns → (h : Form) → Contains ns h → (n : ℤ) → IsOutsideAfter h ms n → HasOutside items E n
    chained_number ms ns at other h in_ns n outside =
        let (m, listed, forms) = list_of x from into f are ms at in
        let (l, listed', forms') = list_of y into last g also ns other in
        let (h', there, same) = partner (list_forms l) ns forms' h in_ns in
        let (k, inside, out) = outside_as_well h h' ms (list_forms m) n (same_turned h' h same) (all_turned (list_forms m) ms forms) outside in
        (subst_form k (list_forms m), put_in_list place x y from into last m l k onto listed listed' (h', there, inside), out)

-- ---- all of a list

pub compares_go_up : (items : List Item) → ComparesGoUp items
compares_go_up items = record {
  of_operands = λ e x y type firsts seconds cs at other p q are. All-weaker (λ c. IsOneOf firsts c ⊎ IsOneOf seconds c) (λ c. (d : Compare) × IsCompare items e type d × IsSameCompare d c)
      (λ c one. elim one [
        | inl left ↦ compared_by items e x type firsts c (λ d is. compare_of_operand e x type d at is) p left
        | inr right ↦ compared_by items e y type seconds c (λ d is. compare_of_operand e y type d other is) q right
      ]) cs are;
  put = λ e x y from into f firsts cs back at other onto are asked all. All-weaker (IsPutOf (from ≡ into) f firsts) (λ c. (d : Compare) × IsCompare items e from d × IsSameCompare d c)
      (λ c is. put_one items e x y from into f firsts back onto are asked c at other is) cs all;
  kept = λ e x from into f maps at are old. All-weaker (λ ks. (ms : List Form) × Contains f.maps ms × AreSameForms ms ks) (λ ks. (m : LabelList) × IsLabelList items e from into m × AreSameForms (list_forms m) ks)
      (λ ks one. (let (ms, there, same) = one in let (m, listed, forms) = list_of items x from into f are ms there in (m, list_of_operand e x from into m at listed, all_further (list_forms m) ms ks forms same))) maps old;
  chained = λ place x y from into last f g maps onto are also all. All-weaker (IsChainOf (from ≡ into) (into ≡ last) f g) (λ ks. (m : LabelList) × IsLabelList items (two Compose place x y) from last m × AreSameForms (list_forms m) ks)
      (λ ks is. chained_one items place x y from into last f g onto are also ks is) maps all;
  opened = λ n x type cs opens are. All-weaker (λ c. (d : Compare) × IsCompare items x type d × IsSameCompare d c) (λ c. (d : Compare) × IsCompare items (named n) type d × IsSameCompare d c)
      (λ c one. (let (d, is, same) = one in (d, compare_opened n x type d opens is, same))) cs are;
  opened_maps = λ n x from into f opens are. record {
    compares = All-weaker (λ c. (d : Compare) × IsCompare items x from d × IsSameCompare d c) (λ c. (d : Compare) × IsCompare items (named n) from d × IsSameCompare d c)
        (λ c one. (let (d, is, same) = one in (d, compare_opened n x from d opens is, same))) f.compares are.compares;
    maps = All-weaker (λ ms. (m : LabelList) × IsLabelList items x from into m × AreSameForms (list_forms m) ms) (λ ms. (m : LabelList) × IsLabelList items (named n) from into m × AreSameForms (list_forms m) ms)
        (λ ms one. (let (m, is, same) = one in (m, list_opened n x from into m opens is, same))) f.maps are.maps;
  };
}

pub numbers_go_up : (items : List Item) → NumbersGoUp items
numbers_go_up items = record {
  put = λ e x y from into f firsts back onto are asked. put_number items e x y from into f firsts back onto are asked;
  chained = λ place x y from into last f g onto are also. chained_number items place x y from into last f g onto are also;
}

module _ (items : List Item) (type : List ℕ) where
  -- a literal over a comparison of one of the expressions
  abbrev IsOver : List X → Literal → Type 0
  IsOver es l = (e : X) × Contains es e × (c : Compare) × IsCompare items e type c × IsSameCompare c l.compare

  over_one : (es : List X) (e : X) (cs : List Compare) → Contains es e → AreCompared items e type cs → (l : Literal) → IsOneOf cs l.compare → IsOver es l
  over_one es e cs at are l one = let (d, is, same) = compared_by items e e type cs l.compare (λ d is. is) are one in (e, at, d, is, same)

  in_either : (firsts seconds : List Compare) (k : ℕ) (c : Compare) → k < length (firsts ++ seconds) → get_or (firsts ++ seconds) k c ≡ c → Contains firsts c ⊎ Contains seconds c
  in_either [] seconds k c low at = inr (k, low, at)
  in_either (a ∷ firsts) seconds zero c low at = inl (0, omega arith, at)
  in_either (a ∷ firsts) seconds (suc k) c low at = elim (in_either firsts seconds k c (omega (arith, low)) at) [ inl (i, i_low, here) ↦ inl (suc i, omega (arith, i_low), here) | inr there ↦ inr there ]

  over_two : (x y : X) (firsts seconds : List Compare) → AreCompared items x type firsts → AreCompared items y type seconds → (l : Literal) → IsOneOf (firsts ++ seconds) l.compare → IsOver (x ∷ y ∷ []) l
  over_two x y firsts seconds are also l (d, at, same) = elim (in_either firsts seconds at.0 d at.1 at.2) [
    | inl left ↦ over_one (x ∷ y ∷ []) x firsts (first_of x (y ∷ [])) are l (d, left, same)
    | inr right ↦ over_one (x ∷ y ∷ []) y seconds (second_of x y) also l (d, right, same)
  ]

pub widths_go_up : (items : List Item) (type : List ℕ) (width : ℕ) → WidthsGoUp items type width
widths_go_up items type width =
    let far = far_labels_go_up items type in
    record {
      of_one = λ e cs rules are seen wide. record {
        type = type;
        chain = wide.chain;
        over = All-weaker (λ l. IsOneOf cs l.compare) (IsOver items type (e ∷ [])) (over_one items type (e ∷ []) e cs (first_of e []) are) wide.chain.literals wide.over;
        once = wide.once;
        passes = wide.passes;
        far = λ narrow. far.of_one e rules seen (wide.far narrow);
      };
      of_two = λ x y firsts seconds first second are also seen sees wide. record {
        type = type;
        chain = wide.chain;
        over = All-weaker (λ l. IsOneOf (firsts ++ seconds) l.compare) (IsOver items type (x ∷ y ∷ [])) (over_two items type x y firsts seconds are also) wide.chain.literals wide.over;
        once = wide.once;
        passes = wide.passes;
        far = λ narrow. far.of_two x y first second seen sees (wide.far narrow);
      };
      of_transducer = λ e into cs f are seen wide. record {
        type = type;
        chain = wide.chain;
        over = All-weaker (λ l. IsOneOf cs l.compare) (IsOver items type (e ∷ [])) (over_one items type (e ∷ []) e cs (first_of e []) are) wide.chain.literals wide.over;
        once = wide.once;
        passes = wide.passes;
        far = λ narrow. far.of_transducer e into f seen (wide.far narrow);
      };
    }
