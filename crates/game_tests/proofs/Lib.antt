mod worked
