use Rattle.std.proofs.Common.{◌≡◌, ◌<◌, ◌+◌, length, get_or, map, take, sym, ap, subst, ◌∙◌, arith, Some, refl, length-append, take_all}
use Rattle.std.specs.Cmp.Lexicographic.{nat_list_eq_equiv}
use Rattle.std.proofs.lemmas.List.Elements.{All-nil, Contains-get_or}
use Rattle.fast_syntax.specs.Plain.{plain_lang, plain_rule}
use Rattle.model_names.specs.Declared.{rules_of}
use Rattle.model_meaning.specs.Reached.{itself}
use Rattle.fast_build.specs.Items.{items_of, find_lang}
use Rattle.fast_build.specs.Reached.{IsGrown, AreClosed, demanded_in}
use Rattle.fast_build.proofs.Standing.{rules_are}
use Rattle.fast_build.proofs.Closing.{still_there, closed_more, found_more}
use Rattle.fast_build.proofs.CallRounds.{more_languages, more_from_seeds, no_more_languages}
use Rattle.fast_build.proofs.looked.gather.Goals as goal

pub gather-init : goal.gather-init
gather-init c =
    let items = items_of c.args.checked.now in
    let none = c.new-langs.ensures.items in
    let keys = c.args.names.keys in
    record {
      known = c.requires.known;
      kept = λ k d low. Contains-get_or keys k d low;
      reached = λ k d low. (get_or keys k d, Contains-get_or keys k d low, itself);
      closed = subst (λ n. AreClosed items keys (take n keys)) (sym (ap length none)) (All-nil _);
      langs = subst (λ xs. map (find_lang items) (take (length xs) keys) ≡ map (λ x. Some (plain_lang x.now)) xs) (sym none) refl;
      count = let n = ap length none in omega (arith, n);
    }

pub gather-smaller : goal.gather-smaller
gather-smaller c =
    let items = items_of c.args.checked.now in
    let low : length c.gather.langs.items < length c.gather.names.keys = omega (arith, c.gather-test.true, c.len.ensures, c.gather.langs.ok.0, c.len-in-gather.ensures.len) in
    let most = no_more_languages items nat_list_eq_equiv c.gather.names.keys c.gather.invariant.known c.len-in-gather.ensures.unique in
    let more : length c.push.new.self.items ≡ length c.gather.langs.items + 1 = ap length c.in_ok-push.ensures.items ∙ length-append _ _ in
    omega (arith, low, most, more)

pub gather-preserved : goal.gather-preserved
gather-preserved c =
    let items = items_of c.args.checked.now in
    let held = c.gather.langs.items in
    let old = c.gather.names.keys in
    let new = c.add_languages.new.names.keys in
    let seeds = c.args.names.keys in
    let low : length held < length old = omega (arith, c.gather-test.true, c.len.ensures, c.gather.langs.ok.0, c.len-in-gather.ensures.len) in
    let k : c.len-in-gather-2.result ≡ length held = omega (arith, c.len-in-gather-2.ensures, c.gather.langs.ok.0) in
    let n = c.index-as_slice-len.result in
    let at : n ≡ get_or old (length held) n = c.index-as_slice-len.is ∙ (λ i. get_or (c.as_slice.ensures.keys i) (k i) n) in
    let more : length c.push.new.self.items ≡ length held + 1 = ap length c.in_ok-push.ensures.items ∙ length-append _ _ in
    let own = plain_lang c.in-Some.lang.now in
    let grown : IsGrown old new (demanded_in (rules_of items n)) = subst (λ rs. IsGrown old new (demanded_in rs)) (ap (map plain_rule) c.deref.ensures.value ∙ sym (rules_are items n own c.in-Some.ensures)) c.in_ok-add_languages.ensures in
    record {
      known = more_languages items c.args.checked.now.well_formed old new n own c.gather.invariant.known c.in-Some.ensures grown;
      kept = still_there old new _ seeds grown c.gather.invariant.kept;
      reached = more_from_seeds items seeds old new n c.gather.invariant.reached (length held, low, sym at) grown;
      closed = subst (λ j. AreClosed items new (take j new)) (sym more) (closed_more (λ m. demanded_in (rules_of items m)) old new (length held) n low at c.gather.invariant.closed grown);
      langs = found_more (find_lang items) (λ x. plain_lang x.now) old new _ held c.push.new.self.items n c.in-Some.lang low at grown c.in_ok-push.ensures.items c.in-Some.ensures c.gather.invariant.langs;
      count = let longer = ap length grown.is ∙ length-append old grown.added in omega (arith, low, more, longer);
    }

pub returns : goal.returns
returns c =
    let items = items_of c.args.checked.now in
    let held = c.gather.langs.items in
    let whole : take (length held) c.gather.names.keys ≡ c.gather.names.keys = take_all (length held) c.gather.names.keys (omega (arith, c.gather-test.false, c.len.ensures, c.gather.langs.ok.0, c.len-in-gather.ensures.len)) in
    record {
      kept = c.gather.invariant.kept;
      reached = c.gather.invariant.reached;
      closed = subst (AreClosed items c.gather.names.keys) whole c.gather.invariant.closed;
      once = c.len-in-gather.ensures.unique;
      langs = subst (λ ns. map (find_lang items) ns ≡ map (λ x. Some (plain_lang x.now)) held) whole c.gather.invariant.langs;
    }
