-- Lists that are told apart, and two transformations that are not composable.
use Rattle.std.proofs.Common.{◌≡◌, ◌↔◌, inl, inr, ℕ, zero, suc, Bool, true, false, cond, List, [], ◌∷◌, Some, None, codes, get_or, refl, sym, ap, ◌∙◌, arith}
use Rattle.std.specs.Prelude.{slice_get}
use Rattle.std.specs.Option.{option_map_or}
use Rattle.std.proofs.lemmas.List.Elements.{All-nil, All-cons}
use Rattle.model_tree.specs.Tree.{LabelTree}
use Rattle.model_tree.specs.Signature.{HasType}
use Rattle.model_grammar.specs.declared.Op1.TheVariants.{Minimize}
use Rattle.model_grammar.specs.Syntax.{X, one, OutRule}
use Rattle.model_names.specs.Declared.{same_text, own_out_rules, out_rules_of}
use Rattle.model_meaning.specs.Languages.{is_in}
use Rattle.model_meaning.specs.Meaning.{IsInLanguage, signature_named}
use Rattle.model_meaning.proofs.Rules.{tests_agree}
use Rattle.model_run.proofs.Undefined.{DefineNothing, undefined, demand_nothing}
use Rattle.model_meaning.specs.Reached.{Reaches, itself, by_demand}
use Rattle.model_meaning.specs.Programs.{here, name, x, rule, to, make, apply, t}
use Rattle.model_meaning.specs.Programs as programs
use Rattle.model_run.specs.Parts.{meant, IsOn, language_of_operand, reached_language, AreApart}
use Rattle.model_run.specs.Plain.{ReachesSome, at_name, Copies, is_before}
use Rattle.model_run.specs.Items.{by_expressions, in_expression}
use Rattle.model_run.specs.Causes.{HasCause, more_classes, not_composable}
use Rattle.model_run.proofs.Laws.{one_reached}
use Rattle.model_run.specs.Examples.{cycling, behind, minimal_body, copying_items, pick_rules, copy_rules, twice_rule, both, both_body, pick_and_copy}

-- ---- lists that are told apart

abbrev list0 : LabelTree
list0 = t 0 []

abbrev list1 : LabelTree
list1 = t 1 (list0 ∷ [])

abbrev list2 : LabelTree
list2 = t 1 (list1 ∷ [])

abbrev list3 : LabelTree
list3 = t 1 (list2 ∷ [])

abbrev list4 : LabelTree
list4 = t 1 (list3 ∷ [])

-- the lists behind the second, the third and the fourth
abbrev rest1 : List LabelTree
rest1 = list2 ∷ list3 ∷ list4 ∷ []

abbrev rest2 : List LabelTree
rest2 = list3 ∷ list4 ∷ []

abbrev rest3 : List LabelTree
rest3 = list4 ∷ []

abbrev minimal : X
minimal = one Minimize here (x (codes "m0"))

abbrev Reached : List ℕ → Type 0
Reached m = Reaches cycling (codes "m0") m

-- m0 reaches m4, m3, m2 and m1 in turn
reach4 : Reached (codes "m4")
reach4 = by_demand (codes "m0") (behind (codes "m4")) (programs.demand (codes "m4") (codes "y")) itself (1, omega arith, refl) (0, omega arith, refl)

reach3 : Reached (codes "m3")
reach3 = by_demand (codes "m4") (behind (codes "m3")) (programs.demand (codes "m3") (codes "y")) reach4 (0, omega arith, refl) (0, omega arith, refl)

reach2 : Reached (codes "m2")
reach2 = by_demand (codes "m3") (behind (codes "m2")) (programs.demand (codes "m2") (codes "y")) reach3 (0, omega arith, refl) (0, omega arith, refl)

reach1 : Reached (codes "m1")
reach1 = by_demand (codes "m2") (behind (codes "m1")) (programs.demand (codes "m1") (codes "y")) reach2 (0, omega arith, refl) (0, omega arith, refl)

abbrev Apart : LabelTree → LabelTree → Type 0
Apart = AreApart cycling (minimal ∷ []) (codes "B")

-- nothing is defined, so the test tells what is in a language
in_cycling : (m : List ℕ) (u : LabelTree) → IsInLanguage cycling (x m) u ↔ is_in cycling u m ≡ true
in_cycling m u = (tests_agree cycling (demand_nothing cycling defines_nothing)).is_in (name m) (undefined cycling defines_nothing m) u
  where
    defines_nothing : DefineNothing cycling
    defines_nothing = (refl, (refl, (refl, (refl, (refl, (refl, tt))))))

-- a language that m0 reaches tells two lists apart
told : (m : List ℕ) → Reached m → IsOn cycling (x m) (codes "B") → (s u : LabelTree) → is_in cycling s m ≡ true → is_in cycling u m ≡ false → Apart s u
told m reached on s u inside outside =
    (minimal, (0, omega arith, refl), meant (x m), language_of_operand minimal (x (codes "m0")) (codes "B") (meant (x m)) (0, omega arith, refl) (reached_language (name (codes "m0")) (name m) (codes "B") reached on), inl ((in_cycling m s).1 inside, λ e. (let bad : true ≡ false = sym ((in_cycling m u).0 e) ∙ outside in cc)))

by0 : (u : LabelTree) → is_in cycling u (codes "m0") ≡ false → Apart list0 u
by0 u outside = told (codes "m0") itself (refl, refl) list0 u refl outside

by1 : (u : LabelTree) → is_in cycling u (codes "m1") ≡ false → Apart list1 u
by1 u outside = told (codes "m1") reach1 (refl, refl) list1 u refl outside

by2 : (u : LabelTree) → is_in cycling u (codes "m2") ≡ false → Apart list2 u
by2 u outside = told (codes "m2") reach2 (refl, refl) list2 u refl outside

by3 : (u : LabelTree) → is_in cycling u (codes "m3") ≡ false → Apart list3 u
by3 u outside = told (codes "m3") reach3 (refl, refl) list3 u refl outside

abbrev Typed : LabelTree → Type 0
Typed u = HasType (signature_named cycling (Some (codes "B"))) u

typed0 : Typed list0
typed0 = (omega arith, refl, refl, tt)

typed_more : (u : LabelTree) → Typed u → Typed (t 1 (u ∷ []))
typed_more u typed = (omega arith, refl, refl, (typed, tt))

pub more_lists : HasCause cycling 4 [] minimal_body (more_classes 4)
more_lists = (
  refl,
  by_expressions minimal_body refl,
  record {
    type = codes "B";
    trees = list0 ∷ list1 ∷ list2 ∷ list3 ∷ list4 ∷ [];
    typed =
        let t1 = typed_more list0 typed0 in
        let t2 = typed_more list1 t1 in
        let t3 = typed_more list2 t2 in
        All-cons Typed list0 (list1 ∷ rest1) typed0 (All-cons Typed list1 rest1 t1 (All-cons Typed list2 rest2 t2 (All-cons Typed list3 rest3 t3 (All-cons Typed list4 [] (typed_more list3 t3) (All-nil Typed)))));
    apart = (
      All-cons (Apart list0) list1 rest1 (by0 list1 refl) (All-cons (Apart list0) list2 rest2 (by0 list2 refl) (All-cons (Apart list0) list3 rest3 (by0 list3 refl) (All-cons (Apart list0) list4 [] (by0 list4 refl) (All-nil (Apart list0))))),
      (
        All-cons (Apart list1) list2 rest2 (by1 list2 refl) (All-cons (Apart list1) list3 rest3 (by1 list3 refl) (All-cons (Apart list1) list4 [] (by1 list4 refl) (All-nil (Apart list1)))),
        (
          All-cons (Apart list2) list3 rest3 (by2 list3 refl) (All-cons (Apart list2) list4 [] (by2 list4 refl) (All-nil (Apart list2))),
          (
            All-cons (Apart list3) list4 [] (by3 list4 refl) (All-nil (Apart list3)),
            (All-nil (Apart list4), tt),
          ),
        ),
      ),
    );
    more = omega arith;
  },
)

-- ---- two transformations that are not composable

abbrev AreHere : List OutRule → Type 0
AreHere [] = Unit {0}
AreHere (r ∷ rules) = (r.rule.ctor.place ≡ here) × AreHere rules

-- all rules of the program stand at one place
at_one_place : (rules : List OutRule) (i : ℕ) (s : OutRule) → AreHere rules → slice_get rules i ≡ Some s → s.rule.ctor.place ≡ here
at_one_place [] i s are e = absurd (cc)
at_one_place (r ∷ rules) zero s are e = let same : r ≡ s = cc in ap (λ k. k.rule.ctor.place) (sym same) ∙ are.0
at_one_place (r ∷ rules) (suc i) s are e = at_one_place rules i s are.1 e

rules_here : (q : List ℕ) → AreHere (out_rules_of copying_items q)
rules_here q = by (same_text (codes "pick") q) (same_text (codes "copy") q) (same_text (codes "both") q)
  where
    by : (b c d : Bool) → AreHere (option_map_or (λ item. own_out_rules item.body)
        (cond b (Some (programs.trans_item (codes "pick") pick_rules)) (cond c (Some (programs.trans_item (codes "copy") copy_rules)) (cond d (Some (record { place = here; body = both_body })) None))) [])
    by true c d = (refl, (refl, (refl, tt)))
    by false true d = (refl, (refl, (refl, tt)))
    by false false true = tt
    by false false false = tt

no_earlier : (i : ℕ) (s : OutRule) → ReachesSome copying_items (λ q. Copies copying_items q i s) (x (codes "copy")) → is_before s.rule.ctor.place here ≡ false
no_earlier i s some =
    let one = one_reached copying_items (λ q. Copies copying_items q i s) (x (codes "copy")) some in
    ap (λ p. is_before p here) (at_one_place (out_rules_of copying_items one.0) i s (rules_here one.0) one.1.0)

differ : ¬ (codes "a" ≡ codes "b")
differ e = let bad : 97 ≡ 98 = ap (λ w. get_or w 0 0) e in omega (arith, bad)

pub not_both : HasCause copying_items 1000 [] both_body (not_composable pick_and_copy)
not_both = record {
  first = x (codes "pick");
  second = x (codes "copy");
  composed = in_expression both_body both (0, omega arith, refl) (inl (refl, refl));
  meet = at_name (name (codes "pick")) (codes "pick") itself (
    refl,
    (omega arith, to (rule (codes "a") [] []) (make (codes "a") []), to (rule (codes "a") [] []) (make (codes "b") []), refl, refl, λ same. differ same.0, (omega arith, refl, refl, tt), (refl, tt), (refl, tt)),
  );
  copies = (twice_rule, at_name (name (codes "copy")) (codes "copy") itself (refl, (refl, (codes "x", inr (inl (refl, inl refl))))), no_earlier);
  signature = refl;
  printable = record { kept = refl; scalars = refl; small = omega arith; shallow = omega arith };
}
