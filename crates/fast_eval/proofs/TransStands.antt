-- The rules of a transducer that was built by rules stand.
use Rattle.std.proofs.Common.{◌≡◌, inl, inr, ℕ, ◌<◌, List, [], ◌∷◌, map, length, get_or, All, Contains, sym, subst}
use Rattle.std.proofs.lemmas.List.{length-map}
use Rattle.std.proofs.lemmas.List.Elements.{All-nil, All-cons}
use Rattle.model_tree.specs.Label.{Label}
use Rattle.model_tree.specs.Signature.{ranks_of}
use Rattle.model_grammar.specs.Syntax.{Item}
use Rattle.model_meaning.specs.Types.{input_of}
use Rattle.model_sta.specs.Sets.{Each}
use Rattle.model_sttr.specs.Plain.{PlainOut}
use Rattle.model_sttr.specs.Terms.{Term, on, build, Parts, no_parts, part, with_maps, parts_with_maps, Uses, UsesIn, Occurs, OccursIn}
use Rattle.model_sttr.specs.Transducer.{Head, run, Sttr, OutRuleFits}
use Rattle.sta_core.specs.Machine.{PlainRule}
use Rattle.sta_core.specs.Sta.{rule_meaning}
use Rattle.sttr_core.specs.Machine.{OutMachine, transducer_of}
use Rattle.sttr_core.proofs.Meaning.{meaning_of, rules_meant, of_place}
use Rattle.sttr_run.specs.Fits.{RuleStands, OutStands, SttrStands}
use Rattle.sta_theory.proofs.Lists.{in_map}
use Rattle.record_label.specs.Rows.{RowAtom, row_holds}
use Rattle.record_label.specs.declared.maps.RowMap.{RowMap}
use Rattle.fast_build.specs.Terms.{row_make}
use Rattle.fast_build.specs.Transducer.{IsTransducerOf}
use Rattle.fast_build.proofs.Paired.{each_place}
use Rattle.sta_classes.proofs.Rows.{each_all}

all_of_each_each : {X : Type 0} (P : X → Type 0) (xss : List (List X)) → Each (Each P) xss → All (All P) xss
all_of_each_each P [] each = All-nil (All P)
all_of_each_each P (xs ∷ xss) each = All-cons (All P) xs xss (each_all P xs each.0) (all_of_each_each P xss each.1)

-- the same children and states with other maps
module _ {M N : Type 0} (f : M → N) where
  mutual
    uses_with : (j : ℕ) (p : Term Head M) → Uses j p → Uses j (with_maps f p)
    uses_with j (on h i) u = u
    uses_with j (build c m ps) u = uses_in_with j ps u

    uses_in_with : (j : ℕ) (ps : Parts Head M) → UsesIn j ps → UsesIn j (parts_with_maps f ps)
    uses_in_with j no_parts u = u
    uses_in_with j (part p ps) (inl u) = inl (uses_with j p u)
    uses_in_with j (part p ps) (inr u) = inr (uses_in_with j ps u)

  mutual
    pub occurs_with : (h : Head) (j : ℕ) (p : Term Head M) → Occurs h j p → Occurs h j (with_maps f p)
    occurs_with h j (on k i) o = o
    occurs_with h j (build c m ps) o = occurs_in_with h j ps o

    occurs_in_with : (h : Head) (j : ℕ) (ps : Parts Head M) → OccursIn h j ps → OccursIn h j (parts_with_maps f ps)
    occurs_in_with h j no_parts o = o
    occurs_in_with h j (part p ps) (inl o) = inl (occurs_with h j p o)
    occurs_in_with h j (part p ps) (inr o) = inr (occurs_in_with h j ps o)

module _ (items : List Item) (name : List ℕ) (names : List (List ℕ)) (d : OutMachine RowAtom RowMap) (is : IsTransducerOf items name names d) where
  abbrev meant : Sttr Label
  meant = transducer_of row_holds row_make d

  look_many : length meant.looks ≡ length d.looks.rules
  look_many = length-map d.looks.rules (map (rule_meaning row_holds))

  out_many : length meant.rules ≡ length d.rules
  out_many = length-map d.rules (map (meaning_of row_holds row_make))

  fits : (k : ℕ) (x : PlainOut (PlainRule RowAtom) RowMap) → Contains (get_or d.rules k []) x → OutRuleFits meant (ranks_of (input_of items name)) (meaning_of row_holds row_make x)
  fits k x at =
      is.fit.rules k (meaning_of row_holds row_make x)
      (subst (λ rs. Contains rs (meaning_of row_holds row_make x)) (sym (rules_meant row_holds row_make d k)) (in_map (meaning_of row_holds row_make) (get_or d.rules k []) x at))

  rule_stands : (k : ℕ) (x : PlainOut (PlainRule RowAtom) RowMap) → Contains (get_or d.rules k []) x → RuleStands d.looks.ranks (length d.looks.rules) x.rule
  rule_stands k x at =
      let arity = of_place (λ r. (r.rule.constructor < length d.looks.ranks) × (length r.rule.demands ≡ get_or d.looks.ranks r.rule.constructor 0)) d.rules k x is.arities at in
      record {
        constructor = arity.0;
        children = arity.1;
        demands = subst (λ n. All (All (λ s. s < n)) x.rule.demands) look_many (all_of_each_each (λ s. s < length meant.looks) x.rule.demands (fits k x at).demands);
      }

  out_stands : (k : ℕ) (x : PlainOut (PlainRule RowAtom) RowMap) → Contains (get_or d.rules k []) x → OutStands d.looks.ranks (length d.looks.rules) (length d.rules) x
  out_stands k x at =
      let own = fits k x at in
      record {
        rule = rule_stands k x at;
        children = λ j uses. subst (λ ranks. j < get_or ranks x.rule.constructor 0) (sym is.ranks) (own.children j (uses_with row_make j x.term uses));
        calls = λ q j occurs. subst (λ n. q < n) out_many (own.heads (run q) j (occurs_with row_make (run q) j x.term occurs));
      }

  pub rules_stand : SttrStands d
  rules_stand = each_place (OutStands d.looks.ranks (length d.looks.rules) (length d.rules)) d.rules (λ k x low at. out_stands k x at)
