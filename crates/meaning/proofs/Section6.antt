-- Document 01, section 6: the worked run of 21 requests, each with its answer and the figures after it. Assumes nothing.
use Rattle.std.proofs.Common.{[], ◌∷◌, ◌≡◌, refl}
use Rattle.meaning.proofs.Played.{played, with_figures}
use Rattle.meaning.specs.Answers.{done, give_back, offset, refused, take, three}

pub section_6 : played 3 (with_figures (
    take 100 ∷ take 1000 ∷ take 2000 ∷ take 100 ∷ take 4097 ∷ take 4096 ∷ take 16
    ∷ give_back 1024 ∷ take 16 ∷ take 16 ∷ give_back 1040 ∷ give_back 1040 ∷ give_back 128 ∷ give_back 0
    ∷ take 2000 ∷ give_back 1024 ∷ take 1025 ∷ give_back 2560 ∷ take 8192 ∷ take 8193 ∷ take 0 ∷ []))
    ≡ offset 0 ∷ three 128 1024 4096
    ∷ offset 1024 ∷ three 1152 2048 4096
    ∷ offset 2048 ∷ three 3200 4096 4096
    ∷ offset 128 ∷ three 3328 4096 4096
    ∷ refused 3 ∷ three 3328 4096 4096
    ∷ offset 4096 ∷ three 7424 8192 0
    ∷ refused 3 ∷ three 7424 8192 0
    ∷ done ∷ three 6400 7168 1024
    ∷ offset 1024 ∷ three 6416 8192 0
    ∷ offset 1040 ∷ three 6432 8192 0
    ∷ done ∷ three 6416 8192 0
    ∷ refused 4 ∷ three 6416 8192 0
    ∷ done ∷ three 6288 8192 0
    ∷ done ∷ three 6160 7168 1024
    ∷ refused 3 ∷ three 6160 7168 1024
    ∷ done ∷ three 6144 6144 2048
    ∷ offset 0 ∷ three 8192 8192 0
    ∷ refused 4 ∷ three 8192 8192 0
    ∷ refused 3 ∷ three 8192 8192 0
    ∷ refused 2 ∷ three 8192 8192 0
    ∷ refused 1 ∷ three 8192 8192 0
    ∷ []
unfolding played with_figures
section_6 = refl
