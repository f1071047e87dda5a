-- The ends of rings as they are made, by sender and by receiver, and the mails made of them.
use Rattle.std.specs.Prelude.{◌≡◌, ◌<◌, ◌≤◌, ◌++◌, ◌∷◌, ℕ, List, [], Option, None, Vec, length, slice_index_or, vec_len}
use Rattle.gr_mail.specs.declared.mail.Mail.{Mail}
use Rattle.gr_mail.specs.Ends.{ReceivingEnd, SendingEnd}
use Rattle.gr_mail.specs.EndsView.{AreEnds, HaveRoom, IsBetween}

-- The ends of the rings from one core to the first n.
pub record AreRow (from n : ℕ) (outs : List (Option SendingEnd)) (ins : List (Option ReceivingEnd)) : Type 0 where
  pub outs_len : length outs ≡ n
  pub ins_len : length ins ≡ n
  pub rings : (to : ℕ) → to < n → IsBetween from to (slice_index_or outs to None) (slice_index_or ins to None)

-- Each list of the later ones is that of the earlier ones, and from m on to below n with the element of zs at its end.
pub record AreDealt {X A : Type 0} (m n : ℕ) (earlier : List (Vec X A)) (zs : List X) (later : List (Vec X A)) : Type 0 where
  pub len : length later ≡ length earlier
  pub more : (k : ℕ) (d : Vec X A) (z : X) → m ≤ k → k < n → (slice_index_or later k d).items ≡ (slice_index_or earlier k d).items ++ slice_index_or zs k z ∷ []
  pub same : (k : ℕ) (d : Vec X A) → k < m → slice_index_or later k d ≡ slice_index_or earlier k d

-- The ends of the rings from the first n cores to all: a list of sending ends for each sender, and of receiving ends for each receiver.
pub record AreGrid {A B : Type 0} (n count : ℕ) (outs : List (Vec (Option SendingEnd) A)) (ins : List (Vec (Option ReceivingEnd) B)) : Type 0 where
  pub outs_len : length outs ≡ n
  pub ins_len : length ins ≡ count
  pub out_len : (from : ℕ) (d : Vec (Option SendingEnd) A) → from < n → length (slice_index_or outs from d).items ≡ count
  pub in_len : (to : ℕ) (d : Vec (Option ReceivingEnd) B) → to < count → length (slice_index_or ins to d).items ≡ n
  pub rings : (from to : ℕ) (d : Vec (Option SendingEnd) A) (e : Vec (Option ReceivingEnd) B) → from < n → to < count
      → IsBetween from to (slice_index_or (slice_index_or outs from d).items to None) (slice_index_or (slice_index_or ins to e).items from None)

-- The ends that the mails of the first cores have.
pub record AreEndsOfMails {A B : Type 0} (count : ℕ) (outs : List (Vec (Option SendingEnd) A)) (ins : List (Vec (Option ReceivingEnd) B)) : Type 0 where
  pub same : length outs ≡ length ins
  pub few : length outs ≤ count
  pub out_len : (k : ℕ) (d : Vec (Option SendingEnd) A) → k < length outs → vec_len (slice_index_or outs k d) ≡ count
  pub in_len : (k : ℕ) (d : Vec (Option ReceivingEnd) B) → k < length ins → vec_len (slice_index_or ins k d) ≡ count
  pub sends : (k : ℕ) (d : Vec (Option SendingEnd) A) → k < length outs → AreEnds count k (slice_index_or outs k d).items
  pub receives : (k : ℕ) (d : Vec (Option ReceivingEnd) B) → k < length ins → AreEnds count k (slice_index_or ins k d).items
  pub rooms : (k : ℕ) (d : Vec (Option SendingEnd) A) → k < length outs → HaveRoom (slice_index_or outs k d).items

-- The mails of the first cores with these ends.
pub record AreAssembled {A B : Type 0} (all_outs : List (Vec (Option SendingEnd) A)) (all_ins : List (Vec (Option ReceivingEnd) B)) (mails : List Mail) : Type 0 where
  pub len : length mails ≡ length all_outs
  pub owner : (k : ℕ) (m : Mail) → k < length mails → (slice_index_or mails k m).owner ≡ k
  pub outs : (k : ℕ) (m : Mail) (d : Vec (Option SendingEnd) A) → k < length mails → (slice_index_or mails k m).outs.items ≡ (slice_index_or all_outs k d).items
  pub ins : (k : ℕ) (m : Mail) (d : Vec (Option ReceivingEnd) B) → k < length mails → (slice_index_or mails k m).ins.items ≡ (slice_index_or all_ins k d).items
