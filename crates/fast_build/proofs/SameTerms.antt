-- Terms of two code rules are equal exactly where the written ones are the same.
use Rattle.std.proofs.Common.{◌≡◌, ◌+◌, ◌<◌, ◌<◌, ℕ, suc, Bool, true, false, not, cond, Some, List, [], ◌∷◌, map, length, get_or, Contains, refl, sym, ap, subst, ◌∙◌, arith}
use Rattle.std.specs.Option.{option_map}
use Rattle.std.specs.List.{position_or_len}
use Rattle.model_tree.specs.Signature.{PlainSignature, names_of}
use Rattle.model_program.specs.Syntax.{Name}
use Rattle.model_grammar.specs.Syntax.{Out, child, call, node, Outs, no_out, and_out}
use Rattle.model_names.specs.Declared.{same_text}
use Rattle.fast_build.proofs.Stands.{are_apart}
use Rattle.model_meaning.specs.Outputs.{number_named}
use Rattle.model_run.specs.Plain.{IsSameTerm, AreSameTerms}
use Rattle.model_sttr.specs.Terms.{Term, on, build, Parts, no_parts, part}
use Rattle.model_sttr.specs.Transducer.{Head, identity, run}
use Rattle.record_label.specs.declared.maps.RowMap.{RowMap}
use Rattle.sttr_single.specs.Same.{AreEqual, AreEqualParts}
use Rattle.fast_build.specs.CarriedTrans.{same_maps}
use Rattle.fast_build.specs.Numbers.{number_in, ctor_at, IsNumbered}
use Rattle.fast_build.specs.Terms.{IsChild, IsTermFor, AreTermsFor, TermStands, TermsStand}
use Rattle.model_checks.proofs.Soundness.{found_passes}
use Rattle.fast_build.proofs.Naming.{same_from_test, named_by_number}
use Rattle.fast_build.proofs.Relating.{numbered_named}
use Rattle.fast_build.proofs.SameMaps.{maps_same}

-- the first of the variables with a name has the name's number
named_place : (vars : List Name) (y : List ℕ) → position_or_len (λ v. same_text v.text y) vars < length vars → number_named (map (λ v. v.text) vars) y ≡ Some (position_or_len (λ v. same_text v.text y) vars)
named_place [] y low = absurd (omega (arith, low))
named_place (v ∷ vars) y low = by (same_text v.text y) low (named_place vars y)
  where
    by : (b : Bool) → cond (not b) (1 + position_or_len (λ v. same_text v.text y) vars) 0 < suc (length vars) → (position_or_len (λ v. same_text v.text y) vars < length vars → number_named (map (λ v. v.text) vars) y ≡ Some (position_or_len (λ v. same_text v.text y) vars))
        → cond b (Some 0) (option_map (λ k. suc k) (number_named (map (λ v. v.text) vars) y)) ≡ Some (cond (not b) (1 + position_or_len (λ v. same_text v.text y) vars) 0)
    by true low later = refl
    by false low later =
        let more : suc (position_or_len (λ v. same_text v.text y) vars) ≡ 1 + position_or_len (λ v. same_text v.text y) vars = omega arith in
        ap (option_map (λ k. suc k)) (later (omega (arith, low))) ∙ ap (λ k. Some k) more

pub child_place : (vars : List Name) (y : List ℕ) (j : ℕ) → IsChild vars y j → number_named (map (λ v. v.text) vars) y ≡ Some j
child_place vars y j is = named_place vars y (subst (λ k. k < length vars) is.is is.below) ∙ ap (λ k. Some k) (sym is.is)

some_same : {X : Type 0} {x y : X} → Some x ≡ Some y → x ≡ y
some_same e = cc

run_same : {p q : ℕ} → run p ≡ run q → p ≡ q
run_same e = cc

no_run : {q : ℕ} → identity ≡ run q → ⊥
no_run e = cc

module _ (vars others : List Name) (y z : List ℕ) (j i : ℕ) (is : IsChild vars y j) (is' : IsChild others z i) where
  place_of_same : j ≡ i → number_named (map (λ v. v.text) vars) y ≡ number_named (map (λ v. v.text) others) z
  place_of_same e = child_place vars y j is ∙ ap (λ k. Some k) e ∙ sym (child_place others z i is')

  same_of_place : number_named (map (λ v. v.text) vars) y ≡ number_named (map (λ v. v.text) others) z → j ≡ i
  same_of_place e = some_same (sym (child_place vars y j is) ∙ e ∙ child_place others z i is')

-- a number among names tells the name
number_told : (names : List (List ℕ)) (p q : List ℕ) → Contains names p → Contains names q → number_in names p ≡ number_in names q → p ≡ q
number_told names p q at at' e = sym (named_by_number names p at) ∙ ap (λ k. get_or names k []) e ∙ named_by_number names q at'

-- so does that of a constructor
ctor_told : (t : PlainSignature) (p q : List ℕ) (c d : ℕ) → IsNumbered t.constructors p c → IsNumbered t.constructors q d → c ≡ d → p ≡ q
ctor_told t p q c d is is' e =
    sym (same_from_test (ctor_at t.constructors c).name p (found_passes (λ x. same_text x.name p) t.constructors (ctor_at t.constructors c) is.found))
    ∙ ap (λ k. (ctor_at t.constructors k).name) e
    ∙ same_from_test (ctor_at t.constructors d).name q (found_passes (λ x. same_text x.name q) t.constructors (ctor_at t.constructors d) is'.found)

ctor_same : (t : PlainSignature) (p q : List ℕ) (c d : ℕ) → are_apart (names_of t) ≡ true → IsNumbered t.constructors p c → IsNumbered t.constructors q d → p ≡ q → c ≡ d
ctor_same t p q c d apart is is' e = some_same (sym (numbered_named t p c apart is) ∙ ap (number_named (names_of t)) e ∙ numbered_named t q d apart is')

module _ (from into : PlainSignature) (names : List (List ℕ)) (apart : are_apart (names_of into) ≡ true) (vars others : List Name) where
  abbrev For : Out → Term Head RowMap → Type 0
  For = IsTermFor from into (number_in names) vars

  abbrev For' : Out → Term Head RowMap → Type 0
  For' = IsTermFor from into (number_in names) others

  abbrev Same : Out → Out → Type 0
  Same = IsSameTerm from.fields vars others

  mutual
    -- equal terms are of the same written ones
    pub same_of_equal : (o u : Out) (p q : Term Head RowMap) → For o p → For' u q → TermStands from into names vars o → TermStands from into names others u → AreEqual same_maps p q → Same o u
    same_of_equal (child y) (child z) (on identity j) (on identity i) f f' s s' e = place_of_same vars others y.text z.text j i f f' e.1
    same_of_equal (child y) (child z) (on (run h) j) q f f' s s' e = absurd f
    same_of_equal (child y) (child z) (build c m ps) q f f' s s' e = absurd f
    same_of_equal (child y) (child z) (on identity j) (on (run k) i) f f' s s' e = absurd f'
    same_of_equal (child y) (child z) (on identity j) (build d n qs) f f' s s' e = absurd f'
    same_of_equal (child y) (call b z) (on identity j) (on (run k) i) f f' s s' e = no_run e.0
    same_of_equal (child y) (call b z) (on (run h) j) q f f' s s' e = absurd f
    same_of_equal (child y) (call b z) (build c m ps) q f f' s s' e = absurd f
    same_of_equal (child y) (call b z) (on identity j) (on identity i) f f' s s' e = absurd f'
    same_of_equal (child y) (call b z) (on identity j) (build d n qs) f f' s s' e = absurd f'
    same_of_equal (child y) (node b es us) (on h j) (on k i) f f' s s' e = absurd f'
    same_of_equal (child y) (node b es us) (on h j) (build d n qs) f f' s s' e = absurd e
    same_of_equal (child y) (node b es us) (build c m ps) q f f' s s' e = absurd f
    same_of_equal (call a y) (child z) (on (run h) j) (on identity i) f f' s s' e = no_run (sym e.0)
    same_of_equal (call a y) (child z) (on identity j) q f f' s s' e = absurd f
    same_of_equal (call a y) (child z) (build c m ps) q f f' s s' e = absurd f
    same_of_equal (call a y) (child z) (on (run h) j) (on (run k) i) f f' s s' e = absurd f'
    same_of_equal (call a y) (child z) (on (run h) j) (build d n qs) f f' s s' e = absurd f'
    same_of_equal (call a y) (call b z) (on (run h) j) (on (run k) i) f f' s s' e =
        (number_told names a.text b.text s.0 s'.0 (sym f.0 ∙ run_same e.0 ∙ f'.0), place_of_same vars others y.text z.text j i f.1 f'.1 e.1)
    same_of_equal (call a y) (call b z) (on identity j) q f f' s s' e = absurd f
    same_of_equal (call a y) (call b z) (build c m ps) q f f' s s' e = absurd f
    same_of_equal (call a y) (call b z) (on (run h) j) (on identity i) f f' s s' e = absurd f'
    same_of_equal (call a y) (call b z) (on (run h) j) (build d n qs) f f' s s' e = absurd f'
    same_of_equal (call a y) (node b es us) (on h j) (on k i) f f' s s' e = absurd f'
    same_of_equal (call a y) (node b es us) (on h j) (build d n qs) f f' s s' e = absurd e
    same_of_equal (call a y) (node b es us) (build c m ps) q f f' s s' e = absurd f
    same_of_equal (node a ds os) u (on h j) q f f' s s' e = absurd f
    same_of_equal (node a ds os) (child z) (build c m ps) (on k i) f f' s s' e = absurd e
    same_of_equal (node a ds os) (child z) (build c m ps) (build d n qs) f f' s s' e = absurd f'
    same_of_equal (node a ds os) (call b z) (build c m ps) (on k i) f f' s s' e = absurd e
    same_of_equal (node a ds os) (call b z) (build c m ps) (build d n qs) f f' s s' e = absurd f'
    same_of_equal (node a ds os) (node b es us) (build c m ps) (on k i) f f' s s' e = absurd e
    same_of_equal (node a ds os) (node b es us) (build c m ps) (build d n qs) f f' s s' e = (
      ctor_told into a.text b.text c d f.0 f'.0 e.0,
      (maps_same from into ds es m n s.1.sorted s'.1.sorted f.1 f'.1).0 e.1,
      same_parts_of_equal os us ps qs f.2 f'.2 s.2 s'.2 e.2,
    )

    same_parts_of_equal : (os us : Outs) (ps qs : Parts Head RowMap) → AreTermsFor from into (number_in names) vars os ps → AreTermsFor from into (number_in names) others us qs → TermsStand from into names vars os → TermsStand from into names others us → AreEqualParts same_maps ps qs
        → AreSameTerms from.fields vars others os us
    same_parts_of_equal no_out no_out ps qs f f' s s' e = tt
    same_parts_of_equal no_out (and_out u us) no_parts no_parts f f' s s' e = absurd f'
    same_parts_of_equal no_out (and_out u us) no_parts (part q qs) f f' s s' e = absurd e
    same_parts_of_equal no_out (and_out u us) (part p ps) qs f f' s s' e = absurd f
    same_parts_of_equal (and_out o os) us no_parts qs f f' s s' e = absurd f
    same_parts_of_equal (and_out o os) no_out (part p ps) no_parts f f' s s' e = absurd e
    same_parts_of_equal (and_out o os) no_out (part p ps) (part q qs) f f' s s' e = absurd f'
    same_parts_of_equal (and_out o os) (and_out u us) (part p ps) no_parts f f' s s' e = absurd e
    same_parts_of_equal (and_out o os) (and_out u us) (part p ps) (part q qs) f f' s s' e = (same_of_equal o u p q f.0 f'.0 s.0 s'.0 e.0, same_parts_of_equal os us ps qs f.1 f'.1 s.1 s'.1 e.1)

  mutual
    -- and terms of the same written ones are equal
    pub equal_of_same : (o u : Out) (p q : Term Head RowMap) → For o p → For' u q → TermStands from into names vars o → TermStands from into names others u → Same o u → AreEqual same_maps p q
    equal_of_same (child y) (child z) (on identity j) (on identity i) f f' s s' e = (refl, same_of_place vars others y.text z.text j i f f' e)
    equal_of_same (child y) (child z) (on (run h) j) q f f' s s' e = absurd f
    equal_of_same (child y) (child z) (build c m ps) q f f' s s' e = absurd f
    equal_of_same (child y) (child z) (on identity j) (on (run k) i) f f' s s' e = absurd f'
    equal_of_same (child y) (child z) (on identity j) (build d n qs) f f' s s' e = absurd f'
    equal_of_same (child y) (call b z) p q f f' s s' e = absurd e
    equal_of_same (child y) (node b es us) p q f f' s s' e = absurd e
    equal_of_same (call a y) (child z) p q f f' s s' e = absurd e
    equal_of_same (call a y) (call b z) (on (run h) j) (on (run k) i) f f' s s' e = (ap run (f.0 ∙ ap (number_in names) e.0 ∙ sym f'.0), same_of_place vars others y.text z.text j i f.1 f'.1 e.1)
    equal_of_same (call a y) (call b z) (on identity j) q f f' s s' e = absurd f
    equal_of_same (call a y) (call b z) (build c m ps) q f f' s s' e = absurd f
    equal_of_same (call a y) (call b z) (on (run h) j) (on identity i) f f' s s' e = absurd f'
    equal_of_same (call a y) (call b z) (on (run h) j) (build d n qs) f f' s s' e = absurd f'
    equal_of_same (call a y) (node b es us) p q f f' s s' e = absurd e
    equal_of_same (node a ds os) (child z) p q f f' s s' e = absurd e
    equal_of_same (node a ds os) (call b z) p q f f' s s' e = absurd e
    equal_of_same (node a ds os) (node b es us) (on h j) q f f' s s' e = absurd f
    equal_of_same (node a ds os) (node b es us) (build c m ps) (on k i) f f' s s' e = absurd f'
    equal_of_same (node a ds os) (node b es us) (build c m ps) (build d n qs) f f' s s' e = (
      ctor_same into a.text b.text c d apart f.0 f'.0 e.0,
      (maps_same from into ds es m n s.1.sorted s'.1.sorted f.1 f'.1).1 e.1,
      equal_parts_of_same os us ps qs f.2 f'.2 s.2 s'.2 e.2,
    )

    equal_parts_of_same : (os us : Outs) (ps qs : Parts Head RowMap) → AreTermsFor from into (number_in names) vars os ps → AreTermsFor from into (number_in names) others us qs → TermsStand from into names vars os → TermsStand from into names others us → AreSameTerms from.fields vars others os us
        → AreEqualParts same_maps ps qs
    equal_parts_of_same no_out no_out no_parts no_parts f f' s s' e = tt
    equal_parts_of_same no_out no_out (part p ps) qs f f' s s' e = absurd f
    equal_parts_of_same no_out no_out no_parts (part q qs) f f' s s' e = absurd f'
    equal_parts_of_same no_out (and_out u us) ps qs f f' s s' e = absurd e
    equal_parts_of_same (and_out o os) no_out ps qs f f' s s' e = absurd e
    equal_parts_of_same (and_out o os) (and_out u us) no_parts qs f f' s s' e = absurd f
    equal_parts_of_same (and_out o os) (and_out u us) (part p ps) no_parts f f' s s' e = absurd f'
    equal_parts_of_same (and_out o os) (and_out u us) (part p ps) (part q qs) f f' s s' e = (equal_of_same o u p q f.0 f'.0 s.0 s'.0 e.0, equal_parts_of_same os us ps qs f.1 f'.1 s.1 s'.1 e.1)
