use Rattle.std.proofs.Common.{refl}
use lib.Utf8.{encode}
use Rattle.std.specs.Str.{chars}
use Rattle.model_program.specs.Spellings.{spelled, keywords}
use Rattle.model_program.proofs.Spelled.{spelled_as, spelled_none}
use Rattle.fast_lex.proofs.words.keyword_of.Goals as goal

pub returns-in_default : goal.returns-in_default
unfolding keywords encode
returns-in_default c = spelled_none keywords _ c.utf8.text (c.in_default.not-type, (c.in_default.not-tree, (c.in_default.not-lang, (c.in_default.not-trans, (c.in_default.not-def, (c.in_default.not-where₀, (c.in_default.not-given, (c.in_default.not-to, (c.in_default.not-intersect, (c.in_default.not-union, (c.in_default.not-complement, (c.in_default.not-difference, (c.in_default.not-minimize, (c.in_default.not-domain, (c.in_default.not-compose, (c.in_default.not-restrict, (c.in_default.not-apply, (c.in_default.not-in, (c.in_default.not-and, (c.in_default.not-or, (c.in_default.not-not, (c.in_default.not-true, (c.in_default.not-false, tt)))))))))))))))))))))))

pub returns-in-type : goal.returns-in-type
unfolding chars spelled keywords
returns-in-type c = spelled_as keywords _ _ _ c.in-type.is refl

pub returns-in-tree : goal.returns-in-tree
unfolding chars spelled keywords
returns-in-tree c = spelled_as keywords _ _ _ c.in-tree.is refl

pub returns-in-lang : goal.returns-in-lang
unfolding chars spelled keywords
returns-in-lang c = spelled_as keywords _ _ _ c.in-lang.is refl

pub returns-in-trans : goal.returns-in-trans
unfolding chars spelled keywords
returns-in-trans c = spelled_as keywords _ _ _ c.in-trans.is refl

pub returns-in-def : goal.returns-in-def
unfolding chars spelled keywords
returns-in-def c = spelled_as keywords _ _ _ c.in-def.is refl

pub returns-in-where : goal.returns-in-where
unfolding chars spelled keywords
returns-in-where c = spelled_as keywords _ _ _ c.in-where.is refl

pub returns-in-given : goal.returns-in-given
unfolding chars spelled keywords
returns-in-given c = spelled_as keywords _ _ _ c.in-given.is refl

pub returns-in-to : goal.returns-in-to
unfolding chars spelled keywords
returns-in-to c = spelled_as keywords _ _ _ c.in-to.is refl

pub returns-in-intersect : goal.returns-in-intersect
unfolding chars spelled keywords
returns-in-intersect c = spelled_as keywords _ _ _ c.in-intersect.is refl

pub returns-in-union : goal.returns-in-union
unfolding chars spelled keywords
returns-in-union c = spelled_as keywords _ _ _ c.in-union.is refl

pub returns-in-complement : goal.returns-in-complement
unfolding chars spelled keywords
returns-in-complement c = spelled_as keywords _ _ _ c.in-complement.is refl

pub returns-in-difference : goal.returns-in-difference
unfolding chars spelled keywords
returns-in-difference c = spelled_as keywords _ _ _ c.in-difference.is refl

pub returns-in-minimize : goal.returns-in-minimize
unfolding chars spelled keywords
returns-in-minimize c = spelled_as keywords _ _ _ c.in-minimize.is refl

pub returns-in-domain : goal.returns-in-domain
unfolding chars spelled keywords
returns-in-domain c = spelled_as keywords _ _ _ c.in-domain.is refl

pub returns-in-compose : goal.returns-in-compose
unfolding chars spelled keywords
returns-in-compose c = spelled_as keywords _ _ _ c.in-compose.is refl

pub returns-in-restrict : goal.returns-in-restrict
unfolding chars spelled keywords
returns-in-restrict c = spelled_as keywords _ _ _ c.in-restrict.is refl

pub returns-in-apply : goal.returns-in-apply
unfolding chars spelled keywords
returns-in-apply c = spelled_as keywords _ _ _ c.in-apply.is refl

pub returns-in-in : goal.returns-in-in
unfolding chars spelled keywords
returns-in-in c = spelled_as keywords _ _ _ c.in-in.is refl

pub returns-in-and : goal.returns-in-and
unfolding chars spelled keywords
returns-in-and c = spelled_as keywords _ _ _ c.in-and.is refl

pub returns-in-or : goal.returns-in-or
unfolding chars spelled keywords
returns-in-or c = spelled_as keywords _ _ _ c.in-or.is refl

pub returns-in-not : goal.returns-in-not
unfolding chars spelled keywords
returns-in-not c = spelled_as keywords _ _ _ c.in-not.is refl

pub returns-in-true : goal.returns-in-true
unfolding chars spelled keywords
returns-in-true c = spelled_as keywords _ _ _ c.in-true.is refl

pub returns-in-false : goal.returns-in-false
unfolding chars spelled keywords
returns-in-false c = spelled_as keywords _ _ _ c.in-false.is refl
