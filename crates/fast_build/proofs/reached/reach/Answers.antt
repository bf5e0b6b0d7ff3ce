use Rattle.std.proofs.Common.{◌≡◌, ◌<◌, ◌+◌, length, get_or, map, take, sym, ap, subst, ◌∙◌, arith, Some, refl, length-append, [], ◌∷◌, None, take_all}
use Rattle.std.specs.Cmp.Lexicographic.{nat_list_eq_equiv}
use Rattle.std.proofs.lemmas.List.Elements.{All-nil, All-contains}
use Rattle.fast_syntax.specs.Plain.{plain_lang, plain_rule}
use Rattle.model_meaning.specs.Reached.{Reaches}
use Rattle.fast_build.specs.Items.{items_of, find_lang}
use Rattle.fast_build.specs.Reached.{IsGrown, AreClosed, demanded_in}
use Rattle.fast_build.proofs.Standing.{rules_are}
use Rattle.fast_build.proofs.Rounds.{first_reached, more_reached, more_closed, more_langs, declared, not_more}
use Rattle.fast_build.proofs.WellFormed.{all_stand}
use Rattle.fast_build.proofs.reached.reach.Goals as goal

pub reach-init : goal.reach-init
reach-init c =
    let items = items_of c.args.checked.now in
    let none = c.new-langs.ensures.items in
    let n = ap length none in
    record {
      reached = first_reached items c.args.name.now c.add_name.new.names.keys (subst (λ ks. IsGrown ks c.add_name.new.names.keys (c.args.name.now ∷ [])) c.new-names.ensures.empty c.in_ok-add_name.ensures);
      closed = subst (λ k. AreClosed items c.add_name.new.names.keys (take k c.add_name.new.names.keys)) (sym n) (All-nil _);
      langs = subst (λ xs. map (find_lang items) (take (length xs) c.add_name.new.names.keys) ≡ map (λ x. Some (plain_lang x.now)) xs) (sym none) refl;
      count = omega (arith, n);
    }

pub unreachable-requires : goal.unreachable-requires
unreachable-requires c =
    let items = items_of c.args.checked.now in
    let low : length c.reach.langs.items < length c.reach.names.keys = omega (arith, c.reach-test.true, c.len.ensures, c.reach.langs.ok.0, c.len-in-reach.ensures.len) in
    let k : c.len-in-reach-2.result ≡ length c.reach.langs.items = omega (arith, c.len-in-reach-2.ensures, c.reach.langs.ok.0) in
    let n = c.index-as_slice-len.result in
    let at : n ≡ get_or c.reach.names.keys (length c.reach.langs.items) n = c.index-as_slice-len.is ∙ (λ i. get_or (c.as_slice.ensures.keys i) (k i) n) in
    let found = declared items c.args.name.now n (all_stand items c.args.checked.now.well_formed) c.requires.there (All-contains (Reaches items c.args.name.now) c.reach.names.keys n c.reach.invariant.reached.reached (length c.reach.langs.items, low, sym at)) in
    let no : None ≡ Some found.0 = sym c.in_default.ensures ∙ found.1 in absurd (cc)

pub reach-smaller : goal.reach-smaller
reach-smaller c =
    let items = items_of c.args.checked.now in
    let low : length c.reach.langs.items < length c.reach.names.keys = omega (arith, c.reach-test.true, c.len.ensures, c.reach.langs.ok.0, c.len-in-reach.ensures.len) in
    let most = not_more items c.args.name.now nat_list_eq_equiv c.reach.names.keys (all_stand items c.args.checked.now.well_formed) c.requires.there c.reach.invariant.reached c.len-in-reach.ensures.unique in
    let more : length c.push.new.self.items ≡ length c.reach.langs.items + 1 = ap length c.in_ok-push.ensures.items ∙ length-append _ _ in
    omega (arith, low, most, more)

pub reach-preserved : goal.reach-preserved
reach-preserved c =
    let items = items_of c.args.checked.now in
    let low : length c.reach.langs.items < length c.reach.names.keys = omega (arith, c.reach-test.true, c.len.ensures, c.reach.langs.ok.0, c.len-in-reach.ensures.len) in
    let k : c.len-in-reach-2.result ≡ length c.reach.langs.items = omega (arith, c.len-in-reach-2.ensures, c.reach.langs.ok.0) in
    let n = c.index-as_slice-len.result in
    let at : n ≡ get_or c.reach.names.keys (length c.reach.langs.items) n = c.index-as_slice-len.is ∙ (λ i. get_or (c.as_slice.ensures.keys i) (k i) n) in
    let more : length c.push.new.self.items ≡ length c.reach.langs.items + 1 = ap length c.in_ok-push.ensures.items ∙ length-append _ _ in
    let grown = subst (λ rs. IsGrown c.reach.names.keys c.add_languages.new.names.keys (demanded_in rs)) (ap (map plain_rule) c.deref.ensures.value ∙ sym (rules_are items n (plain_lang c.in-Some.lang.now) c.in-Some.ensures)) c.in_ok-add_languages.ensures in
    record {
      reached = more_reached items c.args.name.now c.reach.names.keys c.add_languages.new.names.keys n c.reach.invariant.reached (length c.reach.langs.items, low, sym at) grown;
      closed = subst (λ j. AreClosed items c.add_languages.new.names.keys (take j c.add_languages.new.names.keys)) (sym more) (more_closed items c.args.name.now c.reach.names.keys c.add_languages.new.names.keys (length c.reach.langs.items) n low at c.reach.invariant.closed grown);
      langs = more_langs items c.args.name.now (λ x. plain_lang x.now) c.reach.names.keys c.add_languages.new.names.keys _ c.reach.langs.items c.push.new.self.items n c.in-Some.lang low at grown c.in_ok-push.ensures.items c.in-Some.ensures c.reach.invariant.langs;
      count = let longer = ap length grown.is ∙ length-append c.reach.names.keys grown.added in omega (arith, low, more, longer);
    }

pub returns : goal.returns
returns c =
    let items = items_of c.args.checked.now in
    let whole : take (length c.reach.langs.items) c.reach.names.keys ≡ c.reach.names.keys = take_all (length c.reach.langs.items) c.reach.names.keys (omega (arith, c.reach-test.false, c.len.ensures, c.reach.langs.ok.0, c.len-in-reach.ensures.len)) in
    record {
      reached = c.reach.invariant.reached;
      closed = subst (AreClosed items c.reach.names.keys) whole c.reach.invariant.closed;
      once = c.len-in-reach.ensures.unique;
      langs = subst (λ ns. map (find_lang items) ns ≡ map (λ x. Some (plain_lang x.now)) c.reach.langs.items) whole c.reach.invariant.langs;
    }
