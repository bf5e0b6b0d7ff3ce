-- What the transducer of a name shows of the name.
use Rattle.std.specs.Prelude.{◌≡◌, ◌↔◌, ℕ, Bool, ◌<◌, List, [], Some, length, get_or, slice_get}
use Rattle.model_grammar.specs.Syntax.{named, Item}
use Rattle.model_names.specs.Declared.{name_of, out_rules_of}
use Rattle.model_program.specs.Syntax.{Name}
use Rattle.model_sta.specs.Pairwise.{Pairwise}
use Rattle.model_sttr.specs.Transducer.{out_rules, AllLinear, IsFunctionalOn}
use Rattle.model_sttr.specs.Plain.{PlainOut}
use Rattle.sta_core.specs.Machine.{PlainRule}
use Rattle.sttr_single.specs.Same.{AreEqual}
use Rattle.model_grammar.specs.Syntax as written
use Rattle.model_meaning.specs.Meaning.{signature_named}
use Rattle.model_run.specs.Plain.{IsSameTerm, IsPlain, IsLinear}
use Rattle.sttr_core.specs.Machine.{OutMachine, transducer_of}
use Rattle.record_label.specs.Rows.{RowAtom, row_holds}
use Rattle.record_label.specs.declared.maps.RowMap.{RowMap}
use Rattle.record_label.specs.contracts.maps.RowMapPartialEq.TheImpl as row_map
use Rattle.model_layers.specs.Carries.{IsTyped, CarriesTrans}
use Rattle.model_layers.specs.Seen.{IsSeenTrans}
use Rattle.model_layers.specs.Written.{AppliesAs}
use Rattle.fast_build.specs.Terms.{row_make}

-- equal maps
abbrev pub same_maps : RowMap → RowMap → Bool
same_maps m n = row_map.eq-value.it m n

-- the terms of two rules are equal exactly where the terms of the written ones at their places are the same
abbrev pub AreTermsAsWritten : List Item → List ℕ → List ℕ → List (PlainOut (PlainRule RowAtom) RowMap) → Type 0
AreTermsAsWritten items from name rules =
    (i j : ℕ) (r s : PlainOut (PlainRule RowAtom) RowMap) (w v : written.OutRule) → slice_get rules i ≡ Some r → slice_get rules j ≡ Some s
    → slice_get (out_rules_of items name) i ≡ Some w → slice_get (out_rules_of items name) j ≡ Some v
    → AreEqual same_maps r.term s.term ↔ IsSameTerm (signature_named items (Some from)).fields w.rule.vars v.rule.vars w.out v.out

-- Its relation is that of the name, each of its states has a relation of which the name is made, and so on; its guards and
-- maps are seen in the name. A rule of a state applies to the trees of the type to which the written one at its place does, and
-- terms of two rules are equal exactly where those that are written are the same. Each state gives at most one tree where no
-- rules of the name meet, and no rule uses a child twice where no rule of the name does.
pub record IsBuiltTransFor (items : List Item) (n : Name) (from into : List ℕ) (names : List (List ℕ)) (d : OutMachine RowAtom RowMap) (start : ℕ) : Type 0 where
  pub carries : CarriesTrans items (named n) from into (record { sttr = transducer_of row_holds row_make d; start = start })
  pub seen : IsSeenTrans items (named n) from into (transducer_of row_holds row_make d)
  pub applies : (k : ℕ) → k < length names → Pairwise (AppliesAs items from (transducer_of row_holds row_make d) (name_of (get_or names k []))) (out_rules (transducer_of row_holds row_make d) k) (out_rules_of items (get_or names k []))
  pub terms : (k : ℕ) → k < length names → AreTermsAsWritten items from (get_or names k []) (get_or d.rules k [])
  pub plain : IsPlain items (named n) → IsFunctionalOn (transducer_of row_holds row_make d) (IsTyped items from)
  pub linear : IsLinear items (named n) → AllLinear (transducer_of row_holds row_make d)
