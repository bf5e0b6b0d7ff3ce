-- What an item of a well-formed program brings to its evaluation, once the items before it are done.
use Rattle.std.proofs.Common.{◌≡◌, ◌⊎◌, inl, inr, ℕ, Bool, true, false, not, ◌&&◌, cond, List, [], ◌∷◌, ◌++◌, Option, Some, None, find, Contains, refl, sym, ap, subst, ◌∙◌}
use Rattle.std.specs.Prelude.{is_some}
use Rattle.std.specs.Option.{option_and_then}
use Rattle.model_program.specs.Syntax.{Name}
use Rattle.model_grammar.specs.declared.Op1.TheVariants.{Complement, Minimize, Domain, GetWitness}
use Rattle.model_grammar.specs.declared.Op2.TheVariants.{Intersect, Union, Difference, PreImage, Compose, Restrict, RestrictOut, Apply}
use Rattle.model_grammar.specs.Syntax.{X, named, one, two, literal, equal, empty, type_check, Body, sorts, tree, lang, trans, DefItem, def, AssertItem, assertion, Item}
use Rattle.model_names.specs.Declared.{own_name, declares, find_item}
use Rattle.model_names.specs.Kinds.{Kind, same_kind, language, transformation, a_tree, defined_kind, declared_type, own_kind, kind_of, type_of, output_of}
use Rattle.model_meaning.specs.Reached.{IsNamedIn}
use Rattle.fast_fault.specs.declared.code.Code.TheVariants.{WrongKind}
use Rattle.model_checks.specs.Failures.{is_empty, fails_if}
use Rattle.model_checks.specs.Rules.{differ}
use Rattle.model_checks.specs.Expressions.{is_known_later, expected_as, place_of_x, needs_be, type_as, output_as, x_failures, whole_failures}
use Rattle.model_checks.specs.Programs.{is_tree, body_failures, claim_failures}
use Rattle.model_checks.specs.Sound.{IsSound, StandsIn}
use Rattle.model_checks.proofs.Soundness.{empty_first, empty_second, not_false, passed, is_there, found_passes}
use Rattle.meaning_laws.specs.Shapes.{has_automaton_shape}
use Rattle.model_run.specs.Parts.{IsOn, IsFrom}
use Rattle.meaning_laws.proofs.Kinded.{IsTypedAs, IsKinded, kinded, kind_needed, named_kind, through, from_declared, into_declared}
use Rattle.meaning_laws.proofs.Known.{IsKnown, has_name, names_known, found_of}
use Rattle.meaning_laws.proofs.Valued.{same_types, not_other, checked, value_has}
use Rattle.sta_theory.proofs.Lists.{first_in, later_in}
use Rattle.fast_build.specs.Items.{own_lang}
use Rattle.fast_build.specs.Transformations.{own_trans}
use Rattle.fast_eval.specs.declared.built.Built.{Built}
use Rattle.fast_eval.specs.Defined.{AreDefined, AreDefinedOf, IsMadeInto, AreKnownInto}
use Rattle.fast_eval.specs.Table.{HasBuilt}
use Rattle.model_run.specs.Items.{AreComposable}
use Rattle.fast_eval.specs.Forms.{AreReady, AreKnown, IsMadeOn, IsMadeFrom, IsMadeAt, IsReadyName, IsTransKnown, IsKnownAt}
use Rattle.fast_eval.proofs.Claims.{made_on, made_from}
use Rattle.fast_eval.proofs.Typing.{made_of_form, made_from_form}

-- what is found in a front is what is found
pub find_in_front : {A : Type 0} (p : A → Bool) (xs ys : List A) (x : A) → find p xs ≡ Some x → find p (xs ++ ys) ≡ Some x
find_in_front p [] ys x e = absurd (cc)
find_in_front p (z ∷ xs) ys x e = by (p z) e (find_in_front p xs ys x)
  where
    by : (b : Bool) → cond b (Some z) (find p xs) ≡ Some x → (find p xs ≡ Some x → find p (xs ++ ys) ≡ Some x) → cond b (Some z) (find p (xs ++ ys)) ≡ Some x
    by true e later = e
    by false e later = later e

pub found_there : {A : Type 0} (p : A → Bool) (xs : List A) (x : A) → find p xs ≡ Some x → Contains xs x
found_there p [] x e = absurd (cc)
found_there p (z ∷ xs) x e = by (p z) e (found_there p xs x)
  where
    by : (b : Bool) → cond b (Some z) (find p xs) ≡ Some x → (find p xs ≡ Some x → Contains xs x) → Contains (z ∷ xs) x
    by true e later = let same : z ≡ x = cc in subst (λ w. Contains (z ∷ xs) w) same (first_in z xs)
    by false e later = later_in z x xs (later e)

pub some_same : {A : Type 0} {s t : A} → Some s ≡ Some t → s ≡ t
some_same e = cc

module _ (items : List Item) (whole : IsSound items) where
  -- ---- types

  claim_fine : (item : Item) (at : StandsIn items item) (a : AssertItem) → item.body ≡ assertion a → is_empty (claim_failures items at.before a.claim) ≡ true
  claim_fine item at a is = subst (λ b. is_empty (body_failures items at.before b) ≡ true) is (whole.each item at)

  -- a language by its kind
  pub typed_as : (x : X) → IsKinded items x → kind_of items x ≡ Some language → (type : List ℕ) × IsOn items x type
  typed_as x k kind = by k.kind k.is k.typed
    where
      by : (found : Kind) → kind_of items x ≡ Some found → IsTypedAs items found x → (type : List ℕ) × IsOn items x type
      by language is typed = (typed.0, (kind, typed.1))
      by transformation is typed = let no : Some transformation ≡ Some language = sym is ∙ kind in absurd (cc)
      by a_tree is typed = let no : Some a_tree ≡ Some language = sym is ∙ kind in absurd (cc)

  -- a transformation by its kind
  pub typed_from : (x : X) → IsKinded items x → kind_of items x ≡ Some transformation → (from into : List ℕ) × IsFrom items x from into
  typed_from x k kind = by k.kind k.is k.typed
    where
      by : (found : Kind) → kind_of items x ≡ Some found → IsTypedAs items found x → (from into : List ℕ) × IsFrom items x from into
      by language is typed = let no : Some language ≡ Some transformation = sym is ∙ kind in absurd (cc)
      by transformation is typed = (typed.0, typed.1, (kind, typed.2, typed.3))
      by a_tree is typed = let no : Some a_tree ≡ Some transformation = sym is ∙ kind in absurd (cc)

  -- nothing fails in the expression of a statement of one
  empty_inside : (before : List Item) (x : X) → is_empty (claim_failures items before (empty x)) ≡ true → is_empty (x_failures items before 0 None x) ≡ true
  empty_inside before x e = empty_first (x_failures items before 0 None x) _ e

  -- a language or a transformation
  pub empty_made : (before : List Item) (x : X) → is_empty (claim_failures items before (empty x)) ≡ true → has_automaton_shape x ≡ true → AreComposable items x → (type : List ℕ) × IsMadeAt items type x
  empty_made before x e form can =
      let inside = empty_inside before x e in
      let k = kinded items whole before 0 None x inside in
      by (kind_of items x) k refl inside
    where
      by : (kind : Option Kind) → IsKinded items x → kind_of items x ≡ kind → is_empty (x_failures items before 0 None x) ≡ true → (type : List ℕ) × IsMadeAt items type x
      by (Some language) k is inside = let (type, on) = typed_as x k is in (type, inl (made_of_form items whole before 0 None x type form can inside on))
      by (Some transformation) k is inside = let (from, into, goes) = typed_from x k is in (from, inr (into, made_from_form items whole before 0 None x from into form can inside goes))
      by (Some a_tree) k is inside = let no : true ≡ false = sym (ap is_tree is) ∙ passed (is_tree (kind_of items x)) WrongKind (place_of_x x) (empty_second (x_failures items before 0 None x) (fails_if (is_tree (kind_of items x)) WrongKind (place_of_x x)) e) in absurd (cc)
      by None k is inside = let no : Some k.kind ≡ None = sym k.is ∙ is in absurd (cc)

  -- the two languages of a statement are on one type
  pub record AreMadeOnOne (x y : X) : Type 0 where
    pub type : List ℕ
    pub first : IsMadeOn items type x
    pub second : IsMadeOn items type y

  pub equal_made : (before : List Item) (x y : X) → is_empty (claim_failures items before (equal x y)) ≡ true → has_automaton_shape x ≡ true → has_automaton_shape y ≡ true → AreComposable items x → AreComposable items y → AreMadeOnOne x y
  equal_made before x y e form_x form_y can_x can_y =
      let wx = whole_failures items before None language x in
      let wanted = type_as items before language x in
      let wy = whole_failures items before wanted language y in
      let fine_x = empty_first wx wy e in
      let fine_y = empty_second wx wy e in
      let in_x = empty_first (x_failures items before 0 None x) (needs_be items before None language x) fine_x in
      let in_y = empty_first (x_failures items before 0 None y) (needs_be items before wanted language y) fine_y in
      let be_y = empty_second (x_failures items before 0 None y) (needs_be items before wanted language y) fine_y in
      let own_x = kind_needed items before language None x (kinded items whole before 0 None x in_x) (empty_second (x_failures items before 0 None x) (needs_be items before None language x) fine_x) in
      let own_y = kind_needed items before language wanted y (kinded items whole before 0 None y in_y) be_y in
      let told = subst (λ w. differ w (type_of items y) ≡ false) (through language (kind_of items x) (type_of items x) own_x.0) (not_other items whole before language wanted y own_y.0 be_y) in
      let same = same_types items (type_of items x) (type_of items y) own_x.1.0 own_y.1.0 own_x.1.1 own_y.1.1 told in
      record {
        type = own_x.1.0;
        first = made_of_form items whole before 0 None x own_x.1.0 form_x can_x in_x (own_x.0, own_x.1.1);
        second = made_of_form items whole before 0 None y own_x.1.0 form_y can_y in_y (own_y.0, same ∙ own_x.1.1);
      }

  -- a whole expression, and what it is
  record IsWhole (before : List Item) (wanted : Option (List ℕ)) (kind : Kind) (x : X) : Type 0 where
    inside : is_empty (x_failures items before 0 (expected_as kind wanted) x) ≡ true
    own : (kind_of items x ≡ Some kind) × IsTypedAs items kind x
    told : differ wanted (type_of items x) ≡ false

  is_whole : (before : List Item) (wanted : Option (List ℕ)) (kind : Kind) (x : X) → is_empty (whole_failures items before wanted kind x) ≡ true → IsWhole before wanted kind x
  is_whole before wanted kind x e =
      let fx = x_failures items before 0 (expected_as kind wanted) x in
      let bx = needs_be items before wanted kind x in
      let inside = empty_first fx bx e in
      let own = kind_needed items before kind wanted x (kinded items whole before 0 (expected_as kind wanted) x inside) (empty_second fx bx e) in
      record { inside = inside; own = own; told = not_other items whole before kind wanted x own.0 (empty_second fx bx e) }

  -- the expressions of a type check
  pub record AreMadeToCheck (before : List Item) (x f y : X) : Type 0 where
    pub type : List ℕ
    pub into : List ℕ
    pub first : IsMadeOn items type x
    pub goes : IsMadeFrom items type into f
    pub second : IsMadeOn items into y
    pub first_fine : is_empty (x_failures items before 0 None x) ≡ true
    pub fine : is_empty (x_failures items before 0 None f) ≡ true
    pub second_fine : is_empty (x_failures items before 0 None y) ≡ true

  pub check_made : (before : List Item) (x f y : X) → is_empty (claim_failures items before (type_check x f y)) ≡ true → has_automaton_shape x ≡ true → has_automaton_shape f ≡ true → has_automaton_shape y ≡ true
      → AreComposable items x → AreComposable items f → AreComposable items y → AreMadeToCheck before x f y
  check_made before x f y e form_x form_f form_y can_x can_f can_y =
      let wx = whole_failures items before None language x in
      let wf = whole_failures items before (type_as items before language x) transformation f in
      let wy = whole_failures items before (output_as items before transformation f) language y in
      let rest = empty_second wx (wf ++ wy) e in
      let one = is_whole before None language x (empty_first wx (wf ++ wy) e) in
      let two = is_whole before (type_as items before language x) transformation f (empty_first wf wy rest) in
      let three = is_whole before (output_as items before transformation f) language y (empty_second wf wy rest) in
      let type = one.own.1.0 in
      let into = two.own.1.1 in
      let wanted_f : type_as items before language x ≡ Some type = through language (kind_of items x) (type_of items x) one.own.0 ∙ one.own.1.1 in
      let wanted_y : output_as items before transformation f ≡ Some into = through transformation (kind_of items f) (output_of items f) two.own.0 ∙ two.own.1.3 in
      let type_f = same_types items (type_as items before language x) (type_of items f) type two.own.1.0 wanted_f two.own.1.2 two.told ∙ wanted_f in
      let type_y = same_types items (output_as items before transformation f) (type_of items y) into three.own.1.0 wanted_y three.own.1.1 three.told ∙ wanted_y in
      record {
        type = type;
        into = into;
        first = made_of_form items whole before 0 None x type form_x can_x one.inside (one.own.0, one.own.1.1);
        goes = made_from_form items whole before 0 None f type into form_f can_f two.inside (two.own.0, type_f, two.own.1.3);
        second = made_of_form items whole before 0 None y into form_y can_y three.inside (three.own.0, type_y);
        first_fine = one.inside;
        fine = two.inside;
        second_fine = three.inside;
      }

  -- ---- names

  module _ (b : Built) (before from : List Item) (split : items ≡ before ++ from) (P : List ℕ → Type 0) (defined : AreDefinedOf P b before) where
    def_ready : (m : List ℕ) → P m → (item : Item) (d : DefItem) → find_item items m ≡ Some item → item.body ≡ def d → is_some (find_item before m) ≡ true → HasBuilt (defined_kind d.into) b m
    def_ready m wanted item d found is early =
        let (first, at) = is_there (find_item before m) early in
        let whole_found : find_item items m ≡ Some first = ap (λ l. find_item l m) split ∙ find_in_front (declares m) before from first at in
        let same : first ≡ item = some_same (sym whole_found ∙ found) in
        let own = has_name m (own_name first.body) (found_passes (declares m) before first at) in
        let name_is : Some d.name ≡ Some own.0 = sym (ap own_name (ap (λ (i : Item). i.body) same ∙ is)) ∙ own.1 in
        let text_is : d.name.text ≡ m = ap (λ (n : Name). n.text) (some_same name_is) ∙ own.2 in
        subst (HasBuilt (defined_kind d.into) b) text_is (defined first d (found_there (declares m) before first at) (ap (λ (i : Item). i.body) same ∙ is) (subst P (sym text_is) wanted))

    ready_by_body : (m : List ℕ) → P m → (k : Kind) (item : Item) (body : Body) → find_item items m ≡ Some item → item.body ≡ body → (is_known_later item.body && not (is_some (find_item before m))) ≡ false → own_kind body ≡ Some k
        → same_kind k a_tree ≡ false → IsReadyName k items b m
    ready_by_body m wanted k item (sorts t) found is early kind other = absurd (cc)
    ready_by_body m wanted k item (tree t) found is early kind other = absurd (let no : false ≡ true = sym other ∙ ap (λ (k : Kind). same_kind k a_tree) (some_same (sym kind)) in cc)
    ready_by_body m wanted k item (lang l) found is early kind other =
        subst (λ k. IsReadyName k items b m) (some_same kind) (inl (ap is_some (ap (option_and_then (λ (i : Item). own_lang i.body)) found ∙ ap own_lang is)))
    ready_by_body m wanted k item (trans t) found is early kind other =
        subst (λ k. IsReadyName k items b m) (some_same kind) (inl (ap is_some (ap (option_and_then (λ (i : Item). own_trans i.body)) found ∙ ap own_trans is)))
    ready_by_body m wanted k item (def d) found is early kind other =
        subst (λ k. IsReadyName k items b m) (some_same kind) (inr (def_ready m wanted item d found is (not_false (is_some (find_item before m)) (subst (λ b. (is_known_later b && not (is_some (find_item before m))) ≡ false) is early))))
    ready_by_body m wanted k item (assertion a) found is early kind other = absurd (cc)

    -- a name of a kind that is built
    name_ready : (n : Name) (k : Kind) → kind_of items (named n) ≡ Some k → same_kind k a_tree ≡ false → P n.text × IsKnown items whole before n.text → IsReadyName k items b n.text
    name_ready n k kind other known =
        let f = found_of items whole before n.text known.1 in
        ready_by_body n.text known.0 k f.item f.item.body f.found refl f.early (sym (named_kind items n f.item f.found) ∙ kind) other

    abbrev AreWanted : X → Type 0
    AreWanted x = (m : List ℕ) → IsNamedIn x m → P m × IsKnown items whole before m

    abbrev firsts : (x y : X) → ((m : List ℕ) → IsNamedIn x m ⊎ IsNamedIn y m → P m × IsKnown items whole before m) → AreWanted x
    firsts x y known m at = known m (inl at)

    abbrev seconds : (x y : X) → ((m : List ℕ) → IsNamedIn x m ⊎ IsNamedIn y m → P m × IsKnown items whole before m) → AreWanted y
    seconds x y known m at = known m (inr at)

    mutual
      names_ready : (type : List ℕ) (x : X) → IsMadeOn items type x → AreWanted x → AreKnown items b x
      names_ready type (named n) made known = name_ready n language made.0 refl (known n.text refl)
      names_ready type (one Complement place x) made known = names_ready type x made known
      names_ready type (one Minimize place x) made known = names_ready type x made known
      names_ready type (one Domain place f) made known = trans_names_ready type made.0 f made.1 known
      names_ready type (one GetWitness place x) made known = absurd made
      names_ready type (two Intersect place x y) made known = (names_ready type x made.0 (firsts x y known), names_ready type y made.1 (seconds x y known))
      names_ready type (two Union place x y) made known = (names_ready type x made.0 (firsts x y known), names_ready type y made.1 (seconds x y known))
      names_ready type (two Difference place x y) made known = (names_ready type x made.0 (firsts x y known), names_ready type y made.1 (seconds x y known))
      names_ready type (two PreImage place f y) made known = (trans_names_ready type made.0 f made.1 (firsts f y known), names_ready made.0 y made.2 (seconds f y known))
      names_ready type (two Compose place x y) made known = absurd made
      names_ready type (two Restrict place x y) made known = absurd made
      names_ready type (two RestrictOut place x y) made known = absurd made
      names_ready type (two Apply place x y) made known = absurd made
      names_ready type (literal name labels xs) made known = absurd made

      trans_names_ready : (from into : List ℕ) (x : X) → IsMadeFrom items from into x → AreWanted x → IsTransKnown items b x
      trans_names_ready from into (named n) made known = name_ready n transformation made.0 refl (known n.text refl)
      trans_names_ready from into (one op place x) made known = absurd made
      trans_names_ready from into (two Restrict place f y) made known = (trans_names_ready from into f made.0 (firsts f y known), names_ready from y made.1 (seconds f y known))
      trans_names_ready from into (two RestrictOut place f y) made known = (trans_names_ready from into f made.0 (firsts f y known), names_ready into y made.1 (seconds f y known))
      trans_names_ready from into (two Intersect place x y) made known = absurd made
      trans_names_ready from into (two Union place x y) made known = absurd made
      trans_names_ready from into (two Difference place x y) made known = absurd made
      trans_names_ready from into (two PreImage place x y) made known = absurd made
      trans_names_ready from into (two Compose place x y) made known = (trans_names_ready from made.0 x made.1 (firsts x y known), trans_names_ready made.0 into y made.2 (seconds x y known))
      trans_names_ready from into (two Apply place x y) made known = absurd made
      trans_names_ready from into (literal name labels xs) made known = absurd made

    -- where the definitions with some names have languages and transformations, the names in an expression of such names are known
    pub known_where : (around : ℕ) (expected : Option (List ℕ)) (type : List ℕ) (x : X) → is_empty (x_failures items before around expected x) ≡ true → IsMadeOn items type x → ((m : List ℕ) → IsNamedIn x m → P m) → AreKnown items b x
    known_where around expected type x fine made wanted = names_ready type x made (λ m at. (wanted m at, names_known items whole before around expected x fine m at))

    pub trans_known_where : (around : ℕ) (expected : Option (List ℕ)) (from into : List ℕ) (x : X) → is_empty (x_failures items before around expected x) ≡ true → IsMadeFrom items from into x → ((m : List ℕ) → IsNamedIn x m → P m) → IsTransKnown items b x
    trans_known_where around expected from into x fine made wanted = trans_names_ready from into x made (λ m at. (wanted m at, names_known items whole before around expected x fine m at))

  pub known_of : (b : Built) (before from : List Item) → items ≡ before ++ from → AreDefined b before → (around : ℕ) (expected : Option (List ℕ)) (type : List ℕ) (x : X) → is_empty (x_failures items before around expected x) ≡ true → IsMadeOn items type x → AreKnown items b x
  known_of b before from split defined around expected type x fine made =
      known_where b before from split (λ m. Unit {0}) (λ item d at is wanted. defined item d at is) around expected type x fine made (λ m at. tt)

  pub trans_known_of : (b : Built) (before from : List Item) → items ≡ before ++ from → AreDefined b before → (around : ℕ) (expected : Option (List ℕ)) (type into : List ℕ) (x : X) → is_empty (x_failures items before around expected x) ≡ true
      → IsMadeFrom items type into x → IsTransKnown items b x
  trans_known_of b before from split defined around expected type into x fine made =
      trans_known_where b before from split (λ m. Unit {0}) (λ item d at is wanted. defined item d at is) around expected type into x fine made (λ m at. tt)

  -- of an expression of either kind
  pub known_at : (b : Built) (before from : List Item) → items ≡ before ++ from → AreDefined b before → (type : List ℕ) (x : X) → is_empty (x_failures items before 0 None x) ≡ true → IsMadeAt items type x → IsKnownAt items b x
  known_at b before from split defined type x fine (inl made) kind is =
      subst (λ k. AreReady k items b x) (some_same (sym (made_on items type x made).0 ∙ is)) (known_of b before from split defined 0 None type x fine made)
  known_at b before from split defined type x fine (inr (into, made)) kind is =
      subst (λ k. AreReady k items b x) (some_same (sym (made_from items type into x made).0 ∙ is)) (trans_known_of b before from split defined 0 None type into x fine made)

  -- ---- values of definitions

  module _ (item : Item) (at : StandsIn items item) (d : DefItem) (is : item.body ≡ def d) where
    abbrev wanted : Option (List ℕ)
    wanted = expected_as (defined_kind d.into) (declared_type items d.from)

    begins : type_of items d.value ≡ Some d.from.text
    begins = (value_has items whole item at d is).1 ∙ from_declared items whole item at d is

    def_made_from : (n : Name) → d.into ≡ Some n → has_automaton_shape d.value ≡ true → AreComposable items d.value → IsMadeFrom items d.from.text n.text d.value
    def_made_from n e form can =
        let has = value_has items whole item at d is in
        let output = ap (option_and_then (declared_type items)) e ∙ into_declared items whole item at d n is e in
        made_from_form items whole at.before 0 wanted d.value d.from.text n.text form can (checked items whole item at d is).inside (has.0 ∙ ap (λ o. Some (defined_kind o)) e, begins, has.2 ∙ output)

    def_made : d.into ≡ None → has_automaton_shape d.value ≡ true → AreComposable items d.value → IsMadeOn items d.from.text d.value
    def_made e form can =
        let has = value_has items whole item at d is in
        made_of_form items whole at.before 0 wanted d.value d.from.text form can (checked items whole item at d is).inside (has.0 ∙ ap (λ o. Some (defined_kind o)) e, begins)

    def_made_as : (into : Option Name) → d.into ≡ into → has_automaton_shape d.value ≡ true → AreComposable items d.value → IsMadeInto items into d.value
    def_made_as None e form can = (d.from.text, def_made e form can)
    def_made_as (Some n) e form can = (d.from.text, n.text, def_made_from n e form can)

    pub def_made_into : has_automaton_shape d.value ≡ true → AreComposable items d.value → IsMadeInto items d.into d.value
    def_made_into = def_made_as d.into refl

    module _ (b : Built) (P : List ℕ → Type 0) (defined : AreDefinedOf P b at.before) (named_in : (m : List ℕ) → IsNamedIn d.value m → P m) where
      known_as : (into : Option Name) → IsMadeInto items into d.value → AreKnownInto items b into d.value
      known_as None made =
          known_where b at.before (item ∷ at.behind) at.is P defined 0 (expected_as (defined_kind d.into) (declared_type items d.from)) made.0 d.value (checked items whole item at d is).inside made.1 named_in
      known_as (Some n) made =
          trans_known_where b at.before (item ∷ at.behind) at.is P defined 0 (expected_as (defined_kind d.into) (declared_type items d.from)) made.0 made.1 d.value (checked items whole item at d is).inside made.2 named_in

      pub def_known_into : IsMadeInto items d.into d.value → AreKnownInto items b d.into d.value
      def_known_into = known_as d.into
