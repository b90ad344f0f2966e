-- The qubits of a channel say nothing of its rates.
use mathlib.Core.Path.{sym, ◌∙◌}
use Rattle.model.specs.Lists.{every}
use Rattle.model.specs.Numbers.{rates}
use Rattle.model.specs.Calls.{kind_of}
use Rattle.model.proofs.Lists.{and-true}
use Rattle.circuit.specs.declared.lines.Act.{Act}
use Rattle.calls.specs.Instructions.{call_of, sound_rates}
use Rattle.calls.proofs.Matched.{matched}
use Rattle.calls.proofs.Rates.{not-refused, one-anywhere, two-anywhere, depolarize2-anywhere}
use Rattle.calls.proofs.rates_sound.Goals as goal

pub returns-in-Channel : goal.returns-in-Channel
unfolding kind_of
returns-in-Channel c = λ p q.
    matched (λ (act : Act). sound_rates (call_of act c.args.rates p q)) c.in-Channel.is
    (not-refused (c.rates_refused.ensures _ c.channel_arms.ensures c.named_rates_sound-named.ensures) ∙ one-anywhere _ 0 p)

pub returns-in-PauliPairs : goal.returns-in-PauliPairs
unfolding kind_of rates
returns-in-PauliPairs c = λ p q.
    matched (λ (act : Act). sound_rates (call_of act c.args.rates p q)) c.in-PauliPairs.is
    (not-refused (c.rates_refused-in-PauliPairs.ensures _ c.pair_arms.ensures c.all_rates_sound-named.ensures) ∙ two-anywhere _ 0 0 p q)

pub returns-in-Depolarize2 : goal.returns-in-Depolarize2
unfolding kind_of every rates
returns-in-Depolarize2 c = λ p q.
    matched (λ (act : Act). sound_rates (call_of act c.args.rates p q)) c.in-Depolarize2.is
    (not-refused (c.rates_refused-in-Depolarize2.ensures _ c.depolarize2_arms.ensures (c.rate_sound-named.ensures ∙ sym (and-true _)))
    ∙ depolarize2-anywhere _ 0 0 p q)
