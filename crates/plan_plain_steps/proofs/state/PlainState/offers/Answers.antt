use Rattle.std.proofs.Common.{◌<◌, length, subst, sym, rules}
use Rattle.std.specs.List.{All}
use Rattle.std.proofs.lemmas.Result.{IfOk-weaker}
use Rattle.plan_model.specs.Claims.{Offer, offers}
use Rattle.plan_plain_steps.proofs.state.PlainState.offers.Goals as goal

pub returns-clause-value : goal.returns-clause-value
unfolding offers
returns-clause-value c = search rules

pub returns-clause-below : goal.returns-clause-below
returns-clause-below c =
    IfOk-weaker c.offers_from_coarsest.result _ (λ v. All (λ (offer : Offer). offer.level < length c.args.self.now.levels) v.items) (λ v e. subst (All (λ (offer : Offer). offer.level < length c.args.self.now.levels)) (sym e) (c.offers_are_there.ensures c.args.self.now)) (returns-clause-value c)
