-- What a study holds, as a site; and what a call that changes it promises.
use Rattle.std.specs.Prelude.{◌≡◌, Result}
use Rattle.std.specs.Option.{option_map}
use Rattle.terms.specs.declared.refusal.Refusal.{Refusal}
use Rattle.terms.specs.Chains.{Changes}
use Rattle.friction.specs.declared.rule.FrictionRule.{Ghosts}
use Rattle.ground.specs.Table.{strata}
use Rattle.pile.specs.Driven.{numbers_of}
use Rattle.study.specs.declared.holder.Study.{Study}
use Rattle.study.specs.Sites.{Site, Plain, change_refusal, changed}
use Rattle.study.specs.Rules.{Meaning}

module _ {R L : Type 0} where
  abbrev pub site_of : Study R L → Site
  site_of s = record { layers = strata s.ground; pile = option_map numbers_of s.pile }

  abbrev pub rule_of : Study R L → R
  rule_of s = s.rule

  abbrev pub law_of : Study R L → L
  law_of s = s.law

  -- the meaning of the study's rule, from the members of the rule's interface
  abbrev pub meaning : Ghosts R → Study R L → Meaning
  meaning rule s = record { tolerance = rule.TOLERANCE; fraction = rule.fraction s.rule; answer = rule.answer s.rule }

  -- a call leaves the rule and the law as they are
  abbrev pub Kept : Study R L → Study R L → Type 0
  Kept s t = (rule_of t ≡ rule_of s) × (law_of t ≡ law_of s)

  -- the result and the site after it, with the rule and the law as they were; after a refusal the whole study is as it was
  pub record Obeys (s : Study R L) (call : Plain) (r : Result (Unit {0}) Refusal) (t : Study R L) : Type 0 where
    pub changes : Changes site_of (change_refusal (site_of s) call) s (changed (site_of s) call) r t
    pub kept : Kept s t
