use Rattle.std.proofs.Common.{refl, lit≤}
use Rattle.std.proofs.lemmas.Bool.{false≢true}
use Rattle.chains.proofs.Sets.{formed_misses}
use Rattle.bitmap.proofs.Bitmaps.{spelled_formed}
use Rattle.bitmap.specs.WordLaws.{words_back}
use Rattle.bitmap.proofs.bitmap.Bitmap.from_words.Goals as goal

pub invariant_of-result : goal.invariant_of-result
invariant_of-result c = record {
  whole = record { count = c.told-words; words_fit = c.fits-words };
  well_formed = spelled_formed c.args.words.now (lit≤ tt) c.in-None.ensures;
}

pub returns-in-Some-clause-exactly : goal.returns-in-Some-clause-exactly
returns-in-Some-clause-exactly c =
    (λ e. absurd (false≢true e), λ g. absurd (formed_misses g c.in-Some.bit c.in-Some.ensures.missing))

pub returns-in-None-clause-exactly : goal.returns-in-None-clause-exactly
returns-in-None-clause-exactly c =
    (λ _. spelled_formed c.args.words.now (lit≤ tt) c.in-None.ensures, λ _. refl)

pub returns-in-None-clause-back : goal.returns-in-None-clause-back
returns-in-None-clause-back c = words_back c.args.words.now (record { count = c.told-words; words_fit = c.fits-words })
