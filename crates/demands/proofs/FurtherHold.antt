-- The further lasting reports hold of every list of calls. Assumes nothing.
use Prim.Native.Nat.{suc}
use native.Mathlib.Nat.{le_refl, le_trans, le-suc, le_of_lt}
use mathlib.Core.Path.{refl}
use mathlib.Core.Bool.{false≢true}
use mathlib.Core.List.{List}
use Rattle.internal_methods.proofs.Later.{frozen-lasts, shut-lasts, lacking-lasts}
use Rattle.steps.specs.Run.{Call, run}
use Rattle.demands.specs.Further.{Further}
use Rattle.demands.proofs.Carrying.{within, made_at, followed}
use Rattle.demands.proofs.LastingHolds.{says_at, fixed-learnt, shut-learnt, absent-learnt, stays-fixed, stays-non_extensible, prototype-told, same-prototypes, not-shown}

pub further : (calls : List Call) → Further (run calls)
further calls = record {
  defined = λ i e o k d v h t a. stays-fixed calls i o k v (λ j l n.
      frozen-lasts k v (followed calls i e _ _ o j h t (made_at calls i e _ _ h t).0 (λ x. false≢true cc) l n).after.held ((says_at calls i e _ _ h t refl).froze v (record { valued-w = a.value; fixed = a.writable; lasting = a.configurable })));
  assigned = λ i j e f o k v w receiver l n he hf t s. says_at calls j f _ _ hf s refl v (fixed-learnt calls i e o k v he t j l n);
  rooted = λ i j m e f g o p q lj lm nj nm he hf hg t s r. same-prototypes calls i o (λ l h n. shut-learnt calls i e o he t l h n) j m p q
      (record { later = lj; kept = nj; live = (made_at calls j f _ _ hf s).0; told = says_at calls j f _ _ hf s refl })
      (prototype-told calls i o m g q lm nm hg r);
  deleted = λ i j m e f g o k lj lm n he hf hg t s r.
      let after = followed calls j f _ _ o m hf s (made_at calls j f _ _ hf s) (λ x. false≢true cc) lm (within (suc j) m n (le_trans lj (le-suc j)) (le_refl m)) in
      not-shown calls m g o k hg (lacking-lasts k after.after.held ((says_at calls j f _ _ hf s refl).gone (shut-learnt calls i e o he t j lj (within (suc i) j n (le_refl (suc i)) (le_of_lt lm))))) r;
  unadded = λ i j m e f g o k d lj lm n he hf hg t s r.
      (says_at calls m g _ _ hg r refl).there
      (absent-learnt calls j f o k hf (shut-learnt calls i e o he t j lj (within (suc i) j n (le_refl (suc i)) (le_of_lt lm))) s m lm (within (suc j) m n (le_trans lj (le-suc j)) (le_refl m)));
  sealed = λ i e o level h t. stays-non_extensible calls i o (λ j l n.
      shut-lasts (followed calls i e _ _ o j h t (made_at calls i e _ _ h t) (λ x. false≢true cc) l n).after.held (says_at calls i e _ _ h t refl));
  tested = λ i e o level h t. stays-non_extensible calls i o (λ j l n.
      shut-lasts (followed calls i e _ _ o j h t (made_at calls i e _ _ h t) (λ x. false≢true cc) l n).before.held (says_at calls i e _ _ h t refl));
}
