-- Where no written term names a child twice, no term of a transducer uses one twice.
use Rattle.std.proofs.Common.{◌≡◌, ◌+◌, ◌<◌, inl, inr, true, false, Bool, not, cond, ℕ, zero, suc, Some, refl, List, [], ◌∷◌, length, get_or, sym, ap, subst, ◌∙◌, arith}
use Rattle.std.specs.List.{position_or_len}
use Rattle.model_tree.specs.Signature.{PlainSignature}
use Rattle.model_program.specs.Syntax.{Name}
use Rattle.model_grammar.specs.Syntax.{named, Out, child, call, node, Outs, no_out, and_out, TransItem, Item}
use Rattle.model_names.specs.Declared.{same_text}
use Rattle.model_checks.specs.Programs.{is_well_formed}
use Rattle.model_run.specs.Parts.{IsFrom}
use Rattle.model_run.specs.Plain.{Names, NamesInOne, NamesTwice, NamesTwiceIn, Copies, ReachesSome, at_name}
use Rattle.model_run.specs.Plain as written
use Rattle.model_sttr.specs.Terms.{Term, on, build, Parts, no_parts, part, Uses, UsesIn, IsLinear, AreLinear}
use Rattle.model_sttr.specs.Transducer.{Head, identity, run, AllLinear}
use Rattle.model_sttr.specs.Transducer as machines
use Rattle.sttr_core.specs.Machine.{OutMachine, transducer_of}
use Rattle.sttr_core.proofs.Meaning.{rule_held, linear_with_maps}
use Rattle.record_label.specs.Rows.{RowAtom, row_holds}
use Rattle.record_label.specs.declared.maps.RowMap.{RowMap}
use Rattle.fast_build.specs.Terms.{row_make, IsChild, IsTermFor, AreTermsFor}
use Rattle.fast_build.specs.Transducer.{IsTransducerOf}
use Rattle.fast_build.specs.Transformations.{find_trans}
use Rattle.fast_build.proofs.CarryingTrans.{state_there}
use Rattle.fast_build.proofs.Naming.{same_from_test}
use Rattle.fast_build.proofs.RulesWritten.{there_at, written_at}

-- the variable at the place of a name has it
abbrev text_at : List Name → ℕ → List ℕ
text_at [] j = []
text_at (v ∷ vars) zero = v.text
text_at (v ∷ vars) (suc j) = text_at vars j

abbrev place_of : List Name → List ℕ → ℕ
place_of vars y = position_or_len (λ v. same_text v.text y) vars

place_text : (vars : List Name) (y : List ℕ) → place_of vars y < length vars → text_at vars (place_of vars y) ≡ y
place_text [] y low = absurd (omega (arith, low))
place_text (v ∷ vars) y low = by (same_text v.text y) refl low (place_text vars y)
  where
    by : (b : Bool) → same_text v.text y ≡ b → cond (not b) (1 + place_of vars y) 0 < suc (length vars) → (place_of vars y < length vars → text_at vars (place_of vars y) ≡ y) → text_at (v ∷ vars) (cond (not b) (1 + place_of vars y) 0) ≡ y
    by true e low behind = same_from_test v.text y e
    by false e low behind =
        let more : suc (place_of vars y) ≡ 1 + place_of vars y = omega arith in
        sym (ap (text_at (v ∷ vars)) more) ∙ behind (omega (arith, low))

-- so one place is that of one name
one_child : (vars : List Name) (y z : List ℕ) (j : ℕ) → IsChild vars y j → IsChild vars z j → y ≡ z
one_child vars y z j is is' =
    sym (place_text vars y (subst (λ k. k < length vars) is.is is.below)) ∙ ap (text_at vars) (sym is.is ∙ is'.is) ∙ place_text vars z (subst (λ k. k < length vars) is'.is is'.below)

module _ (s o : PlainSignature) (place : List ℕ → ℕ) (vars : List Name) where
  -- what a term uses its written one names
  record Named (Has : List ℕ → Type 0) (j : ℕ) : Type 0 where
    name : List ℕ
    has : Has name
    is : IsChild vars name j

  mutual
    named_by : (out : Out) (p : Term Head RowMap) (j : ℕ) → IsTermFor s o place vars out p → Uses j p → Named (Names out) j
    named_by (child y) (on identity i) j f u = record { name = y.text; has = refl; is = subst (IsChild vars y.text) u f }
    named_by (child y) (on (run q) i) j f u = absurd f
    named_by (child y) (build c m ps) j f u = absurd f
    named_by (call a y) (on identity i) j f u = absurd f
    named_by (call a y) (on (run q) i) j f u = record { name = y.text; has = refl; is = subst (IsChild vars y.text) u f.1 }
    named_by (call a y) (build c m ps) j f u = absurd f
    named_by (node a ds os) (on h i) j f u = absurd f
    named_by (node a ds os) (build c m ps) j f u = named_by_one os ps j f.2 u

    named_by_one : (os : Outs) (ps : Parts Head RowMap) (j : ℕ) → AreTermsFor s o place vars os ps → UsesIn j ps → Named (NamesInOne os) j
    named_by_one no_out no_parts j f u = absurd u
    named_by_one no_out (part p ps) j f u = absurd f
    named_by_one (and_out a os) no_parts j f u = absurd f
    named_by_one (and_out a os) (part p ps) j f (inl u) = let n = named_by a p j f.0 u in record { name = n.name; has = inl n.has; is = n.is }
    named_by_one (and_out a os) (part p ps) j f (inr u) = let n = named_by_one os ps j f.1 u in record { name = n.name; has = inr n.has; is = n.is }

  mutual
    linear_as_written : (out : Out) (p : Term Head RowMap) → IsTermFor s o place vars out p → ((v : List ℕ) → ¬ (NamesTwice out v)) → IsLinear p
    linear_as_written out (on h i) f none = tt
    linear_as_written (child y) (build c m ps) f none = absurd f
    linear_as_written (call a y) (build c m ps) f none = absurd f
    linear_as_written (node a ds os) (build c m ps) f none = linear_parts os ps f.2 none

    linear_parts : (os : Outs) (ps : Parts Head RowMap) → AreTermsFor s o place vars os ps → ((v : List ℕ) → ¬ (NamesTwiceIn os v)) → AreLinear ps
    linear_parts os no_parts f none = tt
    linear_parts no_out (part p ps) f none = absurd f
    linear_parts (and_out a os) (part p ps) f none = (
      linear_as_written a p f.0 (λ v twice. none v (inl twice)),
      linear_parts os ps f.1 (λ v twice. none v (inr (inr twice))),
      λ j u w. (let one = named_by a p j f.0 u in
          let other = named_by_one os ps j f.1 w in
          none one.name (inr (inl (one.has, subst (NamesInOne os) (sym (one_child vars one.name other.name j one.is other.is)) other.has)))),
    )

module _ (items : List Item) (well : is_well_formed items ≡ true) (n : Name) (t : TransItem) (found : find_trans items n.text ≡ Some t) (from into : List ℕ) (goes : IsFrom items (named n) from into) (names : List (List ℕ)) (d : OutMachine RowAtom RowMap) (is : IsTransducerOf items n.text names d) where
  -- a linear transformation has a linear transducer
  pub linear : written.IsLinear items (named n) → AllLinear (transducer_of row_holds row_make d)
  linear none q r at =
      let (x, there, same) = rule_held row_holds row_make d q r at in
      let (i, at_x) = there_at (get_or d.rules q []) x there in
      let low : q < length names = state_there items well n t found from into goes names d is q x there in
      let w = written_at items well n t found from into goes names d is q i x low at_x in
      subst (λ (y : machines.OutRule _). IsLinear y.term) same
      (linear_with_maps row_make x.term (linear_as_written _ _ _ w.other.rule.vars w.other.out x.term w.holds.term (λ v twice. none (at_name n (get_or names q []) (is.reached q [] low) (i, w.other, (w.at, (v, twice)))))))
