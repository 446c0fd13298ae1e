-- What sends leave, at their end and at each moment.
use Rattle.std.proofs.Common.{◌≡◌, ◌⊎◌, inl, inr, ⊎_elim, ℕ, suc, ◌+◌, ◌≤◌, List, [], ◌∷◌, ◌++◌, length, take, Bool, true, false, refl, sym, ◌∙◌, ap, subst, append_assoc, length-append, length-take, arith}
use Rattle.std.proofs.lemmas.List.{append-nil, take-take}
use Rattle.site_core.specs.Log.{Act, reads, sent, okays, LeavesImage, Left, NothingPending}
use Rattle.site_core.specs.Log.Act.{Sent, SendFailed}
use Rattle.site_core.proofs.Moments.{left_split, only_now, still_sent, still_unsent}
use Rattle.site_core.proofs.Runs.{okays-append}
use Rattle.store_forward.specs.Sending.{sends, AreBrokenOff, IsSendMoment}

pub sends_long : (frames : List (List ℕ)) → length (sends frames) ≡ length frames
sends_long [] = refl
sends_long (f ∷ fs) = omega (arith, length-append (sends fs) (Sent f ∷ []), sends_long fs)

pub sends_okays : (frames : List (List ℕ)) → okays (sends frames) ≡ length frames
sends_okays [] = refl
sends_okays (f ∷ fs) = omega (arith, okays-append (sends fs) (Sent f ∷ []), sends_okays fs)

-- the first frame is sent before the others
first_off : (f : List ℕ) (fs : List (List ℕ)) (log : List Act) → sends (f ∷ fs) ++ log ≡ sends fs ++ (Sent f ∷ log)
first_off f fs log = append_assoc (sends fs) (Sent f ∷ []) log

pub sends_sent : (frames : List (List ℕ)) (log : List Act) → sent (sends frames ++ log) ≡ sent log ++ frames
sends_sent [] log = sym (append-nil (sent log))
sends_sent (f ∷ fs) log = ap sent (first_off f fs log) ∙ sends_sent fs (Sent f ∷ log) ∙ append_assoc (sent log) (f ∷ []) fs

pub sends_read : (frames : List (List ℕ)) (log : List Act) → reads (sends frames ++ log) ≡ reads log
sends_read [] log = refl
sends_read (f ∷ fs) log = ap reads (first_off f fs log) ∙ sends_read fs (Sent f ∷ log)

pub sends_quiet : (frames : List (List ℕ)) (log : List Act) → NothingPending log → NothingPending (sends frames ++ log)
sends_quiet [] log quiet = quiet
sends_quiet (f ∷ fs) log quiet = subst NothingPending (sym (first_off f fs log)) (sends_quiet fs (Sent f ∷ log) (still_sent f log quiet))

-- so many of the frames
some_sent : (log : List Act) (frames : List (List ℕ)) (n most : ℕ) (image : List ℕ) (found : List (List ℕ)) → n ≤ length frames → n ≤ most → image ≡ reads log → found ≡ sent log ++ take n frames → IsSendMoment frames log most image found
some_sent log frames n most image found few made same is = record { image_is = same; number = n; few = few; made = made; found_are = is }

none_sent : (log : List Act) (frames : List (List ℕ)) (most : ℕ) (image : List ℕ) (found : List (List ℕ)) → image ≡ reads log → found ≡ sent log → IsSendMoment frames log most image found
none_sent log frames most image found same is = some_sent log frames 0 most image found (omega arith) (omega arith) same (is ∙ sym (append-nil (sent log)))

-- of more frames, and with more calls
pub of_more : (log : List Act) (k : ℕ) (frames : List (List ℕ)) (most more : ℕ) → most ≤ more → (image : List ℕ) (found : List (List ℕ)) → IsSendMoment (take k frames) log most image found → IsSendMoment frames log more image found
of_more log k frames most more le image found m =
    some_sent log frames m.number more image found (omega (arith, m.few, length-take k frames)) (omega (arith, m.made, le)) m.image_is
    (m.found_are ∙ ap (λ (l : List (List ℕ)). sent log ++ l) (take-take m.number k frames (omega (arith, m.few, length-take k frames))))

pub more_calls : (log : List Act) (frames : List (List ℕ)) (most more : ℕ) → most ≤ more → (image : List ℕ) (found : List (List ℕ)) → IsSendMoment frames log most image found → IsSendMoment frames log more image found
more_calls log frames most more le image found m = some_sent log frames m.number more image found m.few (omega (arith, m.made, le)) m.image_is m.found_are

-- the moments of one send
module _ (f : List ℕ) (fs : List (List ℕ)) (log : List Act) (quiet : NothingPending log) (image : List ℕ) (found : List (List ℕ)) where
  out_or_in : LeavesImage log image → (found ≡ sent log) ⊎ (found ≡ sent log ++ f ∷ []) → IsSendMoment (f ∷ fs) log (suc (length fs)) image found
  out_or_in leaves is = ⊎_elim
      (λ out. none_sent log (f ∷ fs) (suc (length fs)) image found (quiet.image image leaves) out)
      (λ added. some_sent log (f ∷ fs) 1 (suc (length fs)) image found (omega arith) (omega arith) (quiet.image image leaves) added)
      is

  one_send : Left (length log) (Sent f ∷ log) image found → IsSendMoment (f ∷ fs) log (suc (length fs)) image found
  one_send left = ⊎_elim
      (λ now. out_or_in now.0 (inr now.1))
      (λ older. ⊎_elim
      (λ within. out_or_in within.0 within.1)
      (λ before. let now = only_now log (length log) image found (omega arith) before in out_or_in now.0 (inl now.1))
      older.1)
      left

pub sends_left : (frames : List (List ℕ)) (log : List Act) → NothingPending log → (image : List ℕ) (found : List (List ℕ)) → Left (length log) (sends frames ++ log) image found → IsSendMoment frames log (length frames) image found
sends_left [] log quiet image found left =
    let now = only_now log (length log) image found (omega arith) left in
    none_sent log [] 0 image found (quiet.image image now.0) now.1
sends_left (f ∷ fs) log quiet image found left = ⊎_elim
    (λ first. one_send f fs log quiet image found first)
    (λ others.
    let m = sends_left fs (Sent f ∷ log) (still_sent f log quiet) image found others in
    some_sent log (f ∷ fs) (suc m.number) (suc (length fs)) image found (omega (arith, m.few)) (omega (arith, m.made)) m.image_is
    (m.found_are ∙ append_assoc (sent log) (f ∷ []) (take m.number fs)))
    (left_split (sends fs) (Sent f ∷ log) (length log) image found (omega arith) (subst (λ (l : List Act). Left (length log) l image found) (first_off f fs log) left))

-- sends of which the last failed
module _ (frames : List (List ℕ)) (acts : List Act) (off : AreBrokenOff frames acts) where
  -- the frames that were sent before it
  abbrev front : List (List ℕ)
  front = take off.number frames

  front_long : length front ≡ off.number
  front_long = omega (arith, off.some, length-take off.number frames)

  pub off_okays : okays acts ≡ off.number
  off_okays = ⊎_elim
      (λ bare. ap okays bare ∙ sends_okays front ∙ front_long)
      (λ failed. ap okays failed.1 ∙ sends_okays front ∙ front_long)
      off.are

  pub off_long : off.number ≤ length acts
  off_long = ⊎_elim
      (λ bare. omega (arith, ap length bare, sends_long front, front_long))
      (λ failed. omega (arith, ap length failed.1, sends_long front, front_long))
      off.are

  module _ (log : List Act) where
    pub off_read : reads (acts ++ log) ≡ reads log
    off_read = ⊎_elim
        (λ bare. ap (λ (x : List Act). reads (x ++ log)) bare ∙ sends_read front log)
        (λ failed. ap (λ (x : List Act). reads (x ++ log)) failed.1 ∙ sends_read front log)
        off.are

    -- its own frame behind those
    added : sent (sends front ++ log) ++ off.frame ∷ [] ≡ sent log ++ take (off.number + 1) frames
    added =
        ap (λ (l : List (List ℕ)). l ++ off.frame ∷ []) (sends_sent front log)
        ∙ append_assoc (sent log) front (off.frame ∷ [])
        ∙ ap (λ (l : List (List ℕ)). sent log ++ l) (sym off.next)

    by_kept : (kept : Bool) → acts ≡ SendFailed off.frame kept ∷ sends front → (sent (acts ++ log) ≡ sent log ++ front) ⊎ (sent (acts ++ log) ≡ sent log ++ take (off.number + 1) frames)
    by_kept true is = inr (ap (λ (x : List Act). sent (x ++ log)) is ∙ added)
    by_kept false is = inl (ap (λ (x : List Act). sent (x ++ log)) is ∙ sends_sent front log)

    pub off_sent : (sent (acts ++ log) ≡ sent log ++ take off.number frames) ⊎ (sent (acts ++ log) ≡ sent log ++ take (off.number + 1) frames)
    off_sent = ⊎_elim
        (λ bare. inl (ap (λ (x : List Act). sent (x ++ log)) bare ∙ sends_sent front log))
        (λ failed. by_kept failed.0 failed.1)
        off.are

    module _ (quiet : NothingPending log) where
      front_quiet : NothingPending (sends front ++ log)
      front_quiet = sends_quiet front log quiet

      pub off_quiet : NothingPending (acts ++ log)
      off_quiet = ⊎_elim
          (λ bare. subst (λ (x : List Act). NothingPending (x ++ log)) (sym bare) front_quiet)
          (λ failed. subst (λ (x : List Act). NothingPending (x ++ log)) (sym failed.1) (still_unsent off.frame failed.0 (sends front ++ log) front_quiet))
          off.are

      module _ (image : List ℕ) (found : List (List ℕ)) where
        before : Left (length log) (sends front ++ log) image found → (most : ℕ) → off.number ≤ most → IsSendMoment frames log most image found
        before left most le = of_more log off.number frames (length front) most (omega (arith, front_long, le)) image found (sends_left front log quiet image found left)

        -- the failed send leaves its frame out or in
        either : (most : ℕ) → off.number + 1 ≤ most → LeavesImage (sends front ++ log) image → (found ≡ sent (sends front ++ log)) ⊎ (found ≡ sent (sends front ++ log) ++ off.frame ∷ []) → IsSendMoment frames log most image found
        either most le leaves is =
            let same : image ≡ reads log = front_quiet.image image leaves ∙ sends_read front log in
            ⊎_elim
            (λ out. some_sent log frames off.number most image found (omega (arith, off.some)) (omega (arith, le)) same (out ∙ sends_sent front log))
            (λ more. some_sent log frames (off.number + 1) most image found (omega (arith, off.some)) le same (more ∙ added))
            is

        at_end : (kept : Bool) → found ≡ sent (SendFailed off.frame kept ∷ (sends front ++ log)) → (found ≡ sent (sends front ++ log)) ⊎ (found ≡ sent (sends front ++ log) ++ off.frame ∷ [])
        at_end true is = inr is
        at_end false is = inl is

        failed_left : (kept : Bool) (most : ℕ) → off.number + 1 ≤ most → Left (length log) (SendFailed off.frame kept ∷ (sends front ++ log)) image found → IsSendMoment frames log most image found
        failed_left kept most le left = ⊎_elim
            (λ now. either most le now.0 (at_end kept now.1))
            (λ older. ⊎_elim (λ within. either most le within.0 within.1) (λ l. before l most (omega (arith, le))) older.1)
            left

        pub off_left : Left (length log) (acts ++ log) image found → IsSendMoment frames log (length acts) image found
        off_left left = ⊎_elim
            (λ bare. before (subst (λ (x : List Act). Left (length log) (x ++ log) image found) bare left) (length acts) off_long)
            (λ failed.
            failed_left failed.0 (length acts) (omega (arith, ap length failed.1, sends_long front, front_long))
            (subst (λ (x : List Act). Left (length log) (x ++ log) image found) failed.1 left))
            off.are
