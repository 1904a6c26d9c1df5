mod SweepLaws
