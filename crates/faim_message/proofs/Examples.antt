-- The definitions on small examples.
use Rattle.std.proofs.Common.{◌≡◌, true, false, [], ◌∷◌, ◌++◌, refl}
use Rattle.std.specs.Prelude.{codes, Some, None}
use Rattle.faim_tags.specs.Layouts.{row_of}
use Rattle.faim_tags.specs.Spelling.{Tag}
use Rattle.faim_message.specs.declared.form.Form.TheVariants.{Input, Draft, Ack}
use Rattle.faim_message.specs.declared.form.Breaks.TheVariants.{Joined, CrLf}
use Rattle.faim_message.specs.Forms.{permitted}
use Rattle.faim_message.specs.Spelling.{Content, IsMessage, message_spelling}
use Rattle.faim_message.specs.Refusal.{missing}
use Rattle.faim_message.specs.Decoded.{decoded}

disposition : Tag
disposition = record { no = 1100; fixed = codes "30T 3"; stars = []; closed = false }

receipt : Tag
receipt = record { no = 1110; fixed = codes "01020930FAIM"; stars = []; closed = false }

ack : Content
ack = record { form = Ack; breaks = CrLf false; tags = disposition ∷ receipt ∷ [] }

ack_spelled : message_spelling ack ≡ codes "{1100}30T 3" ++ 13 ∷ 10 ∷ codes "{1110}01020930FAIM"
unfolding ack disposition receipt
ack_spelled = refl

ack_sound : IsMessage ack
unfolding ack disposition receipt row_of permitted
ack_sound = record {
  tags_sound = record {
    each = (record { listed = refl; filled = refl; fitting = refl; something = refl }, (record { listed = refl; filled = refl; fitting = refl; something = refl }, tt));
    apart = refl;
    allowed = refl;
    led = refl;
  };
  complete = refl;
}

receipt_missing : missing Ack (disposition ∷ []) ≡ Some 1110
unfolding disposition
receipt_missing = refl

transfer : Content
transfer = record {
  form = Input;
  breaks = Joined;
  tags = record { no = 1500; fixed = codes "30USERREQ1T "; stars = []; closed = false }
      ∷ record { no = 1510; fixed = codes "1000"; stars = []; closed = false }
      ∷ record { no = 1520; fixed = codes "20240102BANKA001000001"; stars = []; closed = false }
      ∷ record { no = 2000; fixed = codes "000000150000"; stars = []; closed = false }
      ∷ record { no = 3100; fixed = codes "021000021"; stars = codes "ALPHA BANK" ∷ []; closed = true }
      ∷ record { no = 3400; fixed = codes "121042882"; stars = codes "BETA BANK" ∷ []; closed = true }
      ∷ record { no = 3600; fixed = codes "BTR"; stars = []; closed = false }
      ∷ [];
}

transfer_decoded : decoded Input (codes "{1500}30USERREQ1T {1510}1000{1520}20240102BANKA001000001{2000}000000150000{3100}021000021ALPHA BANK*{3400}121042882BETA BANK*{3600}BTR") ≡ Some transfer
unfolding transfer row_of permitted
transfer_decoded = refl

-- a draft has no identifier yet
transfer_no_draft : decoded Draft (codes "{1500}30USERREQ1T {1510}1000{1520}20240102BANKA001000001{2000}000000150000{3100}021000021ALPHA BANK*{3400}121042882BETA BANK*{3600}BTR") ≡ None
unfolding row_of permitted
transfer_no_draft = refl

-- the tag 1110 is missing
disposition_alone : decoded Ack (codes "{1100}30T 3") ≡ None
unfolding row_of permitted
disposition_alone = refl

-- a break ends half way
ack_half_broken : decoded Ack (codes "{1100}30T 3" ++ 13 ∷ 10 ∷ codes "{1110}01020930FAIM" ++ 13 ∷ []) ≡ None
unfolding row_of permitted
ack_half_broken = refl
