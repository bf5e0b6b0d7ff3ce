-- What the transformations and languages of the small programs have.
use Rattle.std.proofs.Common.{◌≡◌, ℕ, zero, suc, ◌⊎◌, inl, inr, Bool, true, false, ◌&&◌, ◌||◌, cond, List, [], ◌∷◌, Option, Some, None, codes, Contains, refl, sym, ap, ◌∙◌, subst, arith}
use Rattle.std.specs.Prelude.{is_some}
use Rattle.std.specs.List.{list_any}
use Rattle.std.specs.Option.{option_and_then}
use Rattle.model_tree.specs.Label.{Label, row}
use Rattle.model_tree.specs.Tree.{node, Trees, no_trees, tree, LabelTree}
use Rattle.model_tree.specs.Signature.{HasType, names_of}
use Rattle.model_program.specs.Syntax.{Name, Demand}
use Rattle.model_grammar.specs.Syntax.{X, Out, Rule, OutRule, Item}
use Rattle.model_names.specs.Declared.{same_text, declares, find_item}
use Rattle.model_meaning.specs.Types.{input_of, output_of}
use Rattle.model_meaning.specs.Languages.{is_in, heads}
use Rattle.model_meaning.specs.Outputs.{number_named, output_by, IsInstance}
use Rattle.model_meaning.specs.Reached.{own_value, definition_of}
use Rattle.model_meaning.specs.Names.{Definitions, IsIn, AreIn, AppliesBy, Gives, ChildGives}
use Rattle.model_meaning.specs.Meaning.{IsOf, Relates, followed, meaning, IsRelated, IsInLanguage, input_type}
use Rattle.model_meaning.specs.Laws.{DemandNoDefinition}
use Rattle.model_meaning.specs.Programs.{name, x, t, to, rule, make, apply, demand}
use Rattle.model_meaning.specs.Related.{looking, deleting, demanding, calling, swapping_program, defining, f_rule, g_rule, pair_rule, leaf_rule, first_rule, twice_rule, to_b, to_a, inside}
use Rattle.model_meaning.proofs.Members.{one_of, none_of}
use Rattle.model_meaning.proofs.Rules.{tests_agree}

first : {A : Type 0} (y : A) (xs : List A) → Contains (y ∷ xs) y
first y xs = (0, omega arith, refl)

second : {A : Type 0} (x y : A) (xs : List A) → Contains (x ∷ y ∷ xs) y
second x y xs = (1, omega arith, refl)

-- a rule that demands nothing does so of all trees
no_demand : (items : List Item) (D : Definitions) (ts : Trees Label) (vars : List Name) → AreIn items D ts vars []
no_demand items D no_trees vars = tt
no_demand items D (tree t ts) [] = tt
no_demand items D (tree t ts) (v ∷ vars) = (λ d at same. absurd (none_of d at), no_demand items D ts vars)

-- ---- looking

-- what the definition means by its expression
abbrev in_looking : Definitions
in_looking = followed looking 6

abbrev a_rule : OutRule
a_rule = to (rule (codes "a") [] []) (make (codes "a") [])

abbrev b_rule : OutRule
b_rule = to (rule (codes "a") [] []) (make (codes "b") [])

abbrev rb_rule : OutRule
rb_rule = to (rule (codes "b") [] []) (make (codes "b") [])

-- `(a [])` is in the language that g demands
a_is_a : IsIn looking in_looking (codes "isA") (t 0 [])
a_is_a = (rule (codes "a") [] [], first _ [], refl, tt)

demanded_of_g : (d : Demand) → Contains (demand (codes "isA") (codes "y") ∷ []) d → same_text d.child.text (codes "y") ≡ true → IsIn looking in_looking d.language.text (t 0 [])
demanded_of_g d at same = elim (one_of (demand (codes "isA") (codes "y")) d [] at) [ inl e ↦ subst (λ (k : Demand). IsIn looking in_looking k.language.text (t 0 [])) e a_is_a | inr other ↦ absurd (none_of d other) ]

pub one_middle : IsRelated looking (x (codes "h")) (t 2 (t 0 [] ∷ [])) (t 3 (t 0 [] ∷ []))
one_middle = (
  t 2 (t 0 [] ∷ []),
  (f_rule, first f_rule [], (refl, no_demand looking in_looking (tree (t 0 []) no_trees) f_rule.rule.vars), (refl, refl, ((a_rule, first a_rule (b_rule ∷ []), (refl, tt), (refl, refl, tt)), tt))),
  (g_rule, first g_rule [], (refl, (demanded_of_g, tt)), (refl, refl, ((a_rule, first a_rule (rb_rule ∷ []), (refl, tt), (refl, refl, tt)), tt))),
)

abbrev in_deleting : Definitions
in_deleting = followed deleting 4

pub a_middle : IsRelated deleting (x (codes "h")) (t 2 (t 0 [] ∷ t 0 [] ∷ [])) (t 0 [])
a_middle = (
  t 2 (t 0 [] ∷ t 0 [] ∷ []),
  (
    pair_rule,
    first pair_rule [],
    (refl, no_demand deleting in_deleting (tree (t 0 []) (tree (t 0 []) no_trees)) pair_rule.rule.vars),
    (refl, refl, ((leaf_rule, first leaf_rule [], (refl, tt), (refl, refl, tt)), ((leaf_rule, first leaf_rule [], (refl, tt), (refl, refl, tt)), tt))),
  ),
  (first_rule, first first_rule [], (refl, no_demand deleting in_deleting (tree (t 0 []) (tree (t 0 []) no_trees)) first_rule.rule.vars), refl),
)

-- where definitions mean anything
twice_by : (D : Definitions) → Relates calling D (x (codes "k")) (t 2 (t 0 [] ∷ [])) (t 3 (t 0 [] ∷ t 1 [] ∷ []))
twice_by D = (
  twice_rule,
  first twice_rule [],
  (refl, no_demand calling D (tree (t 0 []) no_trees) twice_rule.rule.vars),
  (
    refl,
    refl,
    (
      (a_rule, first a_rule (b_rule ∷ []), (refl, tt), (refl, refl, tt)),
      ((b_rule, second a_rule b_rule [], (refl, tt), (refl, refl, tt)), tt),
    ),
  ),
)

pub two_outputs : IsRelated calling (x (codes "k")) (t 2 (t 0 [] ∷ [])) (t 3 (t 0 [] ∷ t 1 [] ∷ []))
two_outputs = twice_by (meaning calling)

abbrev in_calling : Definitions
in_calling = followed calling 6

a_is_in : IsIn calling in_calling (codes "isA") (t 0 [])
a_is_in = (rule (codes "a") [] [], first _ [], refl, tt)

b_is_in : IsIn calling in_calling (codes "isB") (t 1 [])
b_is_in = (rule (codes "b") [] [], first _ [], refl, tt)

abbrev of_x : Demand
of_x = demand (codes "isA") (codes "x")

abbrev of_y : Demand
of_y = demand (codes "isB") (codes "y")

by_first : (d : Demand) → Contains (of_x ∷ of_y ∷ []) d → same_text d.child.text (codes "x") ≡ true → IsIn calling in_calling d.language.text (t 0 [])
by_first d at same =
    elim (one_of of_x d (of_y ∷ []) at) [
      | inl e ↦ subst (λ (k : Demand). IsIn calling in_calling k.language.text (t 0 [])) e a_is_in
      | inr later ↦ elim (one_of of_y d [] later) [
        | inl e ↦ (let off : false ≡ true = subst (λ (k : Demand). same_text k.child.text (codes "x") ≡ true) (sym e) same in absurd (cc))
        | inr other ↦ absurd (none_of d other)
      ]
    ]

by_second : (d : Demand) → Contains (of_x ∷ of_y ∷ []) d → same_text d.child.text (codes "y") ≡ true → IsIn calling in_calling d.language.text (t 1 [])
by_second d at same =
    elim (one_of of_x d (of_y ∷ []) at) [
      | inl e ↦ (let off : false ≡ true = subst (λ (k : Demand). same_text k.child.text (codes "y") ≡ true) (sym e) same in absurd (cc))
      | inr later ↦ elim (one_of of_y d [] later) [
        | inl e ↦ subst (λ (k : Demand). IsIn calling in_calling k.language.text (t 1 [])) e b_is_in
        | inr other ↦ absurd (none_of d other)
      ]
    ]

pub in_pre_image : IsInLanguage calling (x (codes "p")) (t 2 (t 0 [] ∷ []))
in_pre_image = (t 3 (t 0 [] ∷ t 1 [] ∷ []), twice_by in_calling, (rule (codes "d") (codes "x" ∷ codes "y" ∷ []) (of_x ∷ of_y ∷ []), first _ [], refl, (by_first, (by_second, tt))))

-- ---- what a rule gives, taken apart

-- what a rule makes of a tree
abbrev pub Makes : List Item → Definitions → List ℕ → ℕ → Label → Trees Label → LabelTree → OutRule → Type 0
Makes items D q c l ts u r =
    AppliesBy items D (input_of items q) r.rule (node c l ts)
    × IsInstance (input_of items q) (output_of items q) (λ how y v. ChildGives items D how y r.rule.vars ts v) l r.out u

pub one_rule : (items : List Item) (D : Definitions) (q : List ℕ) (c : ℕ) (l : Label) (ts : Trees Label) (u : LabelTree) (r only : OutRule) → Contains (only ∷ []) r → Makes items D q c l ts u r → Makes items D q c l ts u only
one_rule items D q c l ts u r only at makes = elim (one_of only r [] at) [ inl e ↦ subst (λ s. Makes items D q c l ts u s) (sym e) makes | inr other ↦ absurd (none_of r other) ]

pub two_rules : (items : List Item) (D : Definitions) (q : List ℕ) (c : ℕ) (l : Label) (ts : Trees Label) (u : LabelTree) (r one other : OutRule) → Contains (one ∷ other ∷ []) r → Makes items D q c l ts u r
    → Makes items D q c l ts u one ⊎ Makes items D q c l ts u other
two_rules items D q c l ts u r one other at makes =
    elim (one_of one r (other ∷ []) at) [ inl e ↦ inl (subst (λ s. Makes items D q c l ts u s) (sym e) makes) | inr later ↦ inr (one_rule items D q c l ts u r other later makes) ]

-- an instance of a part of a rule's term
abbrev Part : List Item → Definitions → List ℕ → Rule → Label → Trees Label → Out → LabelTree → Type 0
Part items D q h l ts part v = IsInstance (input_of items q) (output_of items q) (λ how y w. ChildGives items D how y h.vars ts w) l part v

-- a term without parts has one instance
leaf : (items : List Item) (D : Definitions) (q : List ℕ) (c : ℕ) (l : Label) (ts : Trees Label) (h : Rule) (name : List ℕ) (k : ℕ) → number_named (names_of (output_of items q)) name ≡ Some k
    → (u : LabelTree) → Makes items D q c l ts u (to h (make name [])) → u ≡ t k []
leaf items D q c l ts h name k e (node d m no_trees) (applies, made) = let same : d ≡ k = cc in λ i. node (same i) (made.1 i) no_trees
leaf items D q c l ts h name k e (node d m (tree v vs)) (applies, made) = absurd made.2

-- those of a term with one part
unary : (items : List Item) (D : Definitions) (q : List ℕ) (c : ℕ) (l : Label) (ts : Trees Label) (h : Rule) (name : List ℕ) (part : Out) (k : ℕ) → number_named (names_of (output_of items q)) name ≡ Some k
    → (u : LabelTree) → Makes items D q c l ts u (to h (make name (part ∷ []))) → (v : LabelTree) × (u ≡ t k (v ∷ [])) × Part items D q h l ts part v
unary items D q c l ts h name part k e (node d m no_trees) (applies, made) = absurd made.2
unary items D q c l ts h name part k e (node d m (tree v no_trees)) (applies, made) = let same : d ≡ k = cc in (v, λ i. node (same i) (made.1 i) (tree v no_trees), made.2.0)
unary items D q c l ts h name part k e (node d m (tree v (tree w ws))) (applies, made) = absurd made.2.1

-- the second part of a term with two
second_part_of : (items : List Item) (D : Definitions) (q : List ℕ) (c : ℕ) (l : Label) (ts : Trees Label) (h : Rule) (name : List ℕ) (one other : Out) (u : LabelTree)
    → Makes items D q c l ts u (to h (make name (one ∷ other ∷ []))) → (v : LabelTree) × Part items D q h l ts other v
second_part_of items D q c l ts h name one other (node d m no_trees) (applies, made) = absurd made.2
second_part_of items D q c l ts h name one other (node d m (tree v no_trees)) (applies, made) = absurd made.2.1
second_part_of items D q c l ts h name one other (node d m (tree v (tree w ws))) (applies, made) = (w, made.2.1.0)

-- `(a [])` and `(b [])` are the outputs of p on `(a [])`
p_gives : (D : Definitions) → (v : LabelTree) → Gives looking D (output_by (codes "p")) (t 0 []) v → (v ≡ t 0 []) ⊎ (v ≡ t 1 [])
p_gives D v (r, at, applies, made) =
    elim (two_rules looking D (codes "p") 0 (row []) no_trees v r (to (rule (codes "a") [] []) (make (codes "a") [])) (to (rule (codes "a") [] []) (make (codes "b") [])) at (applies, made)) [
      | inl makes ↦ inl (leaf looking D (codes "p") 0 (row []) no_trees (rule (codes "a") [] []) (codes "a") 0 refl v makes)
      | inr makes ↦ inr (leaf looking D (codes "p") 0 (row []) no_trees (rule (codes "a") [] []) (codes "b") 1 refl v makes)
    ]

-- f puts one of them into a node
f_gives : (D : Definitions) → (u : LabelTree) → Gives looking D (output_by (codes "f")) (t 2 (t 0 [] ∷ [])) u → (u ≡ t 2 (t 0 [] ∷ [])) ⊎ (u ≡ t 2 (t 1 [] ∷ []))
f_gives D u (r, at, applies, made) =
    let makes = one_rule looking D (codes "f") 2 (row []) (tree (t 0 []) no_trees) u r f_rule at (applies, made) in
    let one = unary looking D (codes "f") 2 (row []) (tree (t 0 []) no_trees) f_rule.rule (codes "c") (apply (codes "p") (codes "x")) 2 refl u makes in
    elim (p_gives D one.0 one.2) [
      | inl e ↦ inl (one.1 ∙ ap (λ v. t 2 (v ∷ [])) e)
      | inr e ↦ inr (one.1 ∙ ap (λ v. t 2 (v ∷ [])) e)
    ]

r_gives : (D : Definitions) → (v : LabelTree) → Gives looking D (output_by (codes "r")) (t 0 []) v → v ≡ t 0 []
r_gives D v (r, at, applies, made) =
    elim (two_rules looking D (codes "r") 0 (row []) no_trees v r (to (rule (codes "a") [] []) (make (codes "a") [])) (to (rule (codes "b") [] []) (make (codes "b") [])) at (applies, made)) [
      | inl makes ↦ leaf looking D (codes "r") 0 (row []) no_trees (rule (codes "a") [] []) (codes "a") 0 refl v makes
      | inr makes ↦ (let off : false ≡ true = makes.0.0 in absurd (cc))
    ]

g_gives_of_a : (D : Definitions) → (w : LabelTree) → Gives looking D (output_by (codes "g")) (t 2 (t 0 [] ∷ [])) w → w ≡ t 3 (t 0 [] ∷ [])
g_gives_of_a D w (r, at, applies, made) =
    let makes = one_rule looking D (codes "g") 2 (row []) (tree (t 0 []) no_trees) w r g_rule at (applies, made) in
    let one = unary looking D (codes "g") 2 (row []) (tree (t 0 []) no_trees) g_rule.rule (codes "d") (apply (codes "r") (codes "y")) 3 refl w makes in
    one.1 ∙ ap (λ v. t 3 (v ∷ [])) (r_gives D one.0 one.2)

-- the language that g demands has no `(b [])`
b_is_not_a : (D : Definitions) → ¬ (IsIn looking D (codes "isA") (t 1 []))
b_is_not_a D (r, at, heads_so, are) =
    elim (one_of (rule (codes "a") [] []) r [] at) [
      | inl e ↦ (let off : false ≡ true = subst (λ s. heads (input_of looking (codes "isA")) s 1 (row []) ≡ true) (sym e) heads_so in absurd (cc))
      | inr other ↦ absurd (none_of r other)
    ]

g_gives_of_b : (D : Definitions) → (w : LabelTree) → ¬ (Gives looking D (output_by (codes "g")) (t 2 (t 1 [] ∷ [])) w)
g_gives_of_b D w (r, at, applies, made) =
    let makes = one_rule looking D (codes "g") 2 (row []) (tree (t 1 []) no_trees) w r g_rule at (applies, made) in
    b_is_not_a D (makes.0.1.0 (demand (codes "isA") (codes "y")) (first _ []) refl)

pub no_other : (u : LabelTree) → IsRelated looking (x (codes "h")) (t 2 (t 0 [] ∷ [])) u → u ≡ t 3 (t 0 [] ∷ [])
no_other w (u, first_part, second_part) =
    elim (f_gives in_looking u first_part) [
      | inl e ↦ g_gives_of_a in_looking w (subst (λ v. Gives looking in_looking (output_by (codes "g")) v w) e second_part)
      | inr e ↦ absurd (g_gives_of_b in_looking w (subst (λ v. Gives looking in_looking (output_by (codes "g")) v w) e second_part))
    ]

-- ---- deleting

k_gives_of_b : (D : Definitions) → (v : LabelTree) → ¬ (Gives deleting D (output_by (codes "k")) (t 1 []) v)
k_gives_of_b D v (r, at, applies, made) =
    let makes = one_rule deleting D (codes "k") 1 (row []) no_trees v r leaf_rule at (applies, made) in
    let off : false ≡ true = makes.0.0 in
    cc

pub no_middle : (u : LabelTree) → ¬ (IsRelated deleting (x (codes "h")) (t 2 (t 0 [] ∷ t 1 [] ∷ [])) u)
no_middle w (u, (r, at, applies, made), second_part) =
    let makes = one_rule deleting in_deleting (codes "f") 2 (row []) (tree (t 0 []) (tree (t 1 []) no_trees)) u r pair_rule at (applies, made) in
    let other = second_part_of deleting in_deleting (codes "f") 2 (row []) (tree (t 0 []) (tree (t 1 []) no_trees)) pair_rule.rule (codes "c") (apply (codes "k") (codes "x")) (apply (codes "k") (codes "y")) u makes in
    k_gives_of_b in_deleting other.0 other.1

-- ---- demanding

-- a program of other items has no definitions
undefined : (program : List Item) (n : List ℕ) → list_any (λ item. is_some (own_value item.body)) program ≡ false → definition_of program n ≡ None
undefined [] n none = refl
undefined (item ∷ program) n none = by (declares n item) (is_some (own_value item.body)) (list_any (λ other. is_some (own_value other.body)) program) refl none (undefined program n)
  where
    no_value : (o : Option X) → is_some o ≡ false → o ≡ None
    no_value None e = refl
    no_value (Some v) e = absurd (cc)

    by : (b own rest : Bool) → is_some (own_value item.body) ≡ own → (own || rest) ≡ false → (rest ≡ false → definition_of program n ≡ None) → option_and_then (λ i. own_value i.body) (cond b (Some item) (find_item program n)) ≡ None
    by true false rest is none later = no_value (own_value item.body) is
    by true true rest is none later = absurd (cc)
    by false false rest is none later = later none
    by false true rest is none later = absurd (cc)

demand_no_definition : DemandNoDefinition demanding
demand_no_definition = record { in_languages = λ n r d at given. undefined demanding d.language.text refl }

-- no tree is in both languages, of leaves with different constructors
both_leaves : (s : LabelTree) → HasType (input_type demanding (x (codes "w"))) s → is_in demanding s (codes "pa") ≡ true → is_in demanding s (codes "pb") ≡ true → ⊥
both_leaves (node zero l ts) typed one other = let off : false ≡ true = other in cc
both_leaves (node (suc zero) l ts) typed one other = let off : false ≡ true = one in cc
both_leaves (node (suc (suc zero)) l ts) typed one other = let off : false ≡ true = one in cc
both_leaves (node (suc (suc (suc c))) l ts) typed one other = omega (arith, typed.0)

two_true : (a b : Bool) → (((a && (b && true)) && true) || false) ≡ true → (a ≡ true) × (b ≡ true)
two_true true true e = (refl, refl)
two_true true false e = absurd (cc)
two_true false true e = absurd (cc)
two_true false false e = absurd (cc)

no_such_tree : (u : LabelTree) → HasType (input_type demanding (x (codes "w"))) u → is_in demanding u (codes "w") ≡ true → ⊥
no_such_tree (node zero l ts) typed inside = let off : false ≡ true = inside in cc
no_such_tree (node (suc zero) l ts) typed inside = let off : false ≡ true = inside in cc
no_such_tree (node (suc (suc zero)) l no_trees) typed inside = let off : 0 ≡ 1 = typed.1 in omega (arith, off)
no_such_tree (node (suc (suc zero)) l (tree s no_trees)) typed inside =
    let both = two_true (is_in demanding s (codes "pa")) (is_in demanding s (codes "pb")) inside in
    both_leaves s typed.3.0 both.0 both.1
no_such_tree (node (suc (suc zero)) l (tree s (tree r rs))) typed inside = omega (arith, typed.1)
no_such_tree (node (suc (suc (suc c))) l ts) typed inside = omega (arith, typed.0)

pub no_tree : (u : LabelTree) → HasType (input_type demanding (x (codes "w"))) u → ¬ (IsInLanguage demanding (x (codes "w")) u)
no_tree u typed inside = no_such_tree u typed (((tests_agree demanding demand_no_definition).is_in (name (codes "w")) refl u).0 inside)

-- ---- definitions inside each other

abbrev five_deep : Definitions
five_deep = followed swapping_program 5

abbrev four_deep : Definitions
four_deep = followed swapping_program 4

abbrev of_pb : Demand
of_pb = demand (codes "pb") (codes "x")

abbrev pb_rule : Rule
pb_rule = rule (codes "b") [] []

abbrev w_rule : Rule
w_rule = rule (codes "c") (codes "x" ∷ []) (of_pb ∷ [])

a_not_in_pb : (D : Definitions) → ¬ (IsIn swapping_program D (codes "pb") (t 0 []))
a_not_in_pb D (r, at, heads_so, are) =
    elim (one_of pb_rule r [] at) [
      | inl e ↦ (let off : false ≡ true = subst (λ s. heads (input_of swapping_program (codes "pb")) s 0 (row []) ≡ true) (sym e) heads_so in absurd (cc))
      | inr other ↦ absurd (none_of r other)
    ]

ca_not_in_w : (D : Definitions) → ¬ (IsIn swapping_program D (codes "w") (t 2 (t 0 [] ∷ [])))
ca_not_in_w D (r, at, heads_so, are) =
    elim (one_of w_rule r [] at) [
      | inl e ↦ a_not_in_pb D ((subst (λ (s : Rule). AreIn swapping_program D (tree (t 0 []) no_trees) s.vars s.given) (sym e) are).0 of_pb (first _ []) refl)
      | inr other ↦ none_of r other
    ]

cb_in_w : (D : Definitions) → IsIn swapping_program D (codes "w") (t 2 (t 1 [] ∷ []))
cb_in_w D = (w_rule, first _ [], refl, (λ d at same. elim (one_of of_pb d [] at) [ inl e ↦ subst (λ (k : Demand). IsIn swapping_program D k.language.text (t 1 [])) e (pb_rule, first _ [], refl, tt) | inr other ↦ absurd (none_of d other) ], tt))

third : {A : Type 0} (u v w : A) (ws : List A) → Contains (u ∷ v ∷ w ∷ ws) w
third u v w ws = (2, omega arith, refl)

swapped : (D : Definitions) → Gives swapping_program D (output_by (codes "p")) (t 2 (t 1 [] ∷ [])) (t 2 (t 0 [] ∷ []))
swapped D = (inside, third _ _ _ [], (refl, no_demand swapping_program D (tree (t 1 []) no_trees) inside.rule.vars), (refl, refl, ((to_a, second _ _ (inside ∷ []), (refl, tt), (refl, refl, tt)), tt)))

pub in_swapping : IsInLanguage swapping_program (x (codes "q")) (t 2 (t 1 [] ∷ []))
in_swapping = (t 2 (t 0 [] ∷ []), swapped five_deep, ca_not_in_w four_deep)

-- one of three rules
of_three : (D : Definitions) (c : ℕ) (ts : Trees Label) (u : LabelTree) → Gives swapping_program D (output_by (codes "p")) (node c (row []) ts) u
    → Makes swapping_program D (codes "p") c (row []) ts u to_b ⊎ Makes swapping_program D (codes "p") c (row []) ts u to_a ⊎ Makes swapping_program D (codes "p") c (row []) ts u inside
of_three D c ts u (r, at, applies, made) =
    elim (one_of to_b r (to_a ∷ inside ∷ []) at) [
      | inl e ↦ inl (subst (λ s. Makes swapping_program D (codes "p") c (row []) ts u s) (sym e) (applies, made))
      | inr later ↦ inr (two_rules swapping_program D (codes "p") c (row []) ts u r to_a inside later (applies, made))
    ]

swaps_a : (D : Definitions) (v : LabelTree) → Gives swapping_program D (output_by (codes "p")) (t 0 []) v → v ≡ t 1 []
swaps_a D v gives = by (of_three D 0 no_trees v gives)
  where
    by : Makes swapping_program D (codes "p") 0 (row []) no_trees v to_b ⊎ Makes swapping_program D (codes "p") 0 (row []) no_trees v to_a ⊎ Makes swapping_program D (codes "p") 0 (row []) no_trees v inside → v ≡ t 1 []
    by (inl makes) = leaf swapping_program D (codes "p") 0 (row []) no_trees to_b.rule (codes "b") 1 refl v makes
    by (inr (inl makes)) = let off : false ≡ true = makes.0.0 in absurd (cc)
    by (inr (inr makes)) = let off : false ≡ true = makes.0.0 in absurd (cc)

swaps_ca : (D : Definitions) (u : LabelTree) → Gives swapping_program D (output_by (codes "p")) (t 2 (t 0 [] ∷ [])) u → u ≡ t 2 (t 1 [] ∷ [])
swaps_ca D u gives = by (of_three D 2 (tree (t 0 []) no_trees) u gives)
  where
    by : Makes swapping_program D (codes "p") 2 (row []) (tree (t 0 []) no_trees) u to_b ⊎ Makes swapping_program D (codes "p") 2 (row []) (tree (t 0 []) no_trees) u to_a ⊎ Makes swapping_program D (codes "p") 2 (row []) (tree (t 0 []) no_trees) u inside → u ≡ t 2 (t 1 [] ∷ [])
    by (inl makes) = let off : false ≡ true = makes.0.0 in absurd (cc)
    by (inr (inl makes)) = let off : false ≡ true = makes.0.0 in absurd (cc)
    by (inr (inr makes)) =
        let one = unary swapping_program D (codes "p") 2 (row []) (tree (t 0 []) no_trees) inside.rule (codes "c") (apply (codes "p") (codes "x")) 2 refl u makes in
        one.1 ∙ ap (λ v. t 2 (v ∷ [])) (swaps_a D one.0 one.2)

pub not_in_swapping : ¬ (IsInLanguage swapping_program (x (codes "q")) (t 2 (t 0 [] ∷ [])))
not_in_swapping (u, gives, outside) = subst (λ v. IsOf swapping_program five_deep (x (codes "n")) v) (swaps_ca five_deep u gives) outside (cb_in_w four_deep)

-- ---- a rule that demands a definition

abbrev of_n : Demand
of_n = demand (codes "n") (codes "x")

abbrev v_rule : Rule
v_rule = rule (codes "c") (codes "x" ∷ []) (of_n ∷ [])

a_not_pb : (D : Definitions) → ¬ (IsIn defining D (codes "pb") (t 0 []))
a_not_pb D (r, at, heads_so, are) =
    elim (one_of pb_rule r [] at) [
      | inl e ↦ (let off : false ≡ true = subst (λ s. heads (input_of defining (codes "pb")) s 0 (row []) ≡ true) (sym e) heads_so in absurd (cc))
      | inr other ↦ absurd (none_of r other)
    ]

pub in_demanded : IsInLanguage defining (x (codes "v")) (t 2 (t 0 [] ∷ []))
in_demanded = (v_rule, first _ [], refl, (λ d at same. elim (one_of of_n d [] at) [ inl e ↦ subst (λ (k : Demand). IsIn defining (meaning defining) k.language.text (t 0 [])) e (a_not_pb (followed defining 3)) | inr other ↦ absurd (none_of d other) ], tt))

pub not_in_demanded : ¬ (IsInLanguage defining (x (codes "v")) (t 2 (t 1 [] ∷ [])))
not_in_demanded (r, at, heads_so, are) =
    elim (one_of v_rule r [] at) [
      | inl e ↦ (subst (λ (s : Rule). AreIn defining (meaning defining) (tree (t 1 []) no_trees) s.vars s.given) (sym e) are).0 of_n (first _ []) refl (pb_rule, first _ [], refl, tt)
      | inr other ↦ none_of r other
    ]
