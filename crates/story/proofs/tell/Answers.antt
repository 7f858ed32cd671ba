use Rattle.std.proofs.Common.{◌≡◌, ℕ, ◌+◌, ◌<◌, map, length, take, drop, sym, refl, ap, ◌∙◌, subst, arith}
use Rattle.std.proofs.lemmas.List.{drop-set-lt, drop-drop, length-take, get_or-take}
use Rattle.study.specs.Sites.{plain}
use Rattle.study.specs.Views.{site_of, rule_of, meaning}
use Rattle.story.specs.Story.{Told}
use Rattle.story.specs.Story.Told.{over}
use Rattle.story.proofs.Telling.{same_meaning, told_more, tale}
use Rattle.story.proofs.tell.Goals as goal

pub loop-i-init : goal.loop-i-init
loop-i-init g c = ((refl, refl), refl, over)

pub loop-i-preserved : goal.loop-i-preserved
loop-i-preserved g c =
    let s = c.args.study.now in
    let means = meaning g.R.FrictionRule in
    let inv = c.loop-i.invariant in
    let i = c.loop-i.i in
    let was = c.loop-i.answers in
    let told = c.perform.ensures in
    let same : means c.loop-i.study ≡ means s = same_meaning g.R.FrictionRule s c.loop-i.study inv.0.0 in
    let n = c.min-n.result in
    let count = length-take n c.args.calls.now in
    let within : i < n = omega (arith, count, c.loop-i-test.true) in
    let room : i < length was = omega (arith, within) in
    let more : i < length c.args.calls.now = omega (arith, within) in
    let here = get_or-take n c.args.calls.now i _ within in (
      (told.kept.0 ∙ inv.0.0, told.kept.1 ∙ inv.0.1),
      drop-set-lt (i + 1) was i _ (omega arith) ∙ sym (drop-drop 1 i was) ∙ ap (drop 1) inv.1 ∙ drop-drop 1 i c.args.answers.now,
      told_more (means s) (means c.loop-i.study) same (site_of s) (site_of c.loop-i.study) (site_of c.perform.new.study) c.args.calls.now was i _ _ c.perform.result here more room inv.2 told.step,
    )

pub returns : goal.returns
returns g c =
    let s = c.args.study.now in
    let means = meaning g.R.FrictionRule in
    let inv = c.loop-i.invariant in
    let n = c.min-n.result in
    let end : c.loop-i.i ≡ n = omega (arith, length-take n c.args.calls.now, c.loop-i-test.false) in
    let told = subst (λ (k : ℕ). Told (means s) (site_of s) (map plain (take k c.args.calls.now)) (take k c.loop-i.answers) (site_of c.loop-i.study)) end inv.2 in
    record {
      many = c.min-n.ensures;
      tale = tale means (λ x. g.met.R.FrictionRule.within (rule_of x)) s c.loop-i.study _ _ told inv.0;
      rest = subst (λ (k : ℕ). drop k c.loop-i.answers ≡ drop k c.args.answers.now) end inv.1;
    }
