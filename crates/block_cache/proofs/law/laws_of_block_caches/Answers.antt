use Rattle.block_cache.proofs.Found.{kept_found, others_kept, used_found, none_left, others_stay}
use Rattle.block_cache.proofs.law.laws_of_block_caches.Goals as goal

pub returns-clause-kept_found : goal.returns-clause-kept_found
returns-clause-kept_found c = kept_found

pub returns-clause-others_kept : goal.returns-clause-others_kept
returns-clause-others_kept c = λ blocks place other bytes found apart is. others_kept place other apart blocks bytes found is

pub returns-clause-used_found : goal.returns-clause-used_found
returns-clause-used_found c = used_found

pub returns-clause-none_left : goal.returns-clause-none_left
returns-clause-none_left c = none_left

pub returns-clause-others_stay : goal.returns-clause-others_stay
returns-clause-others_stay c = others_stay
